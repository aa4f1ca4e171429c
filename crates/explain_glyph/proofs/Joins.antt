-- A search for the base that is made for one glyph serves the rule (ligature/Laws). Assumes nothing.
use Rattle.std.proofs.Common.{◌≡◌, Bool}
use Rattle.glyph.specs.declared.Glyph.{Glyph}
use Rattle.ligature.specs.declared.Ligbase.{Ligbase}
use Rattle.ligature.specs.Ligature.{may_join}
use Rattle.ligature.specs.Laws.{looked_serves}
use Rattle.ligature.specs.Search.{base_needed, may_skip, looked}

pub searched_serves : (first this : Glyph) (skips : Bool)
    → may_join first this (may_skip (looked Ligbase.NotChecked (base_needed first this) skips)) ≡ may_join first this skips
searched_serves first this skips = looked_serves Ligbase.NotChecked first this skips tt
