-- Lookahead's walks: what the answer of a walk over a part keeps to, and that it is the walk over the whole, counted from the part's start.
use Rattle.std.specs.Prelude.{ℕ, ◌+◌, ◌≤◌, ◌<◌, ◌≡◌, List, length, drop}
use Rattle.std.proofs.Common.{sym, ap, ◌∙◌, arith, length-drop}
use Rattle.glyph.specs.declared.Glyph.{Glyph}
use Rattle.verdict.specs.declared.Matcher.{Matcher}
use Rattle.verdict.specs.declared.Verdict.{Verdict}
use Rattle.verdict.specs.Verdict.{Asked, judge_at}
use Rattle.walk.specs.declared.Walked.{Walked}
use Rattle.walk.specs.declared.Walked.TheVariants.{Found, Stopped, RanOut}
use Rattle.walk.specs.Walk.{walk_from}
use Rattle.walk.specs.Means.{Means}
use Rattle.walk.specs.Laws.{walk_means}
use Rattle.walk.specs.Parts.{raised, walk_onward}

abbrev pub WalkWithin : ℕ → Walked → Type 0
WalkWithin len (Found q) = q < len
WalkWithin len (Stopped extent) = extent ≤ len
WalkWithin len (RanOut extent) = extent ≤ len

within_means : (v : ℕ → Verdict) (len next : ℕ) (r : Walked) → next ≤ len → Means v len next r → WalkWithin len r
within_means v len next (Found q) h f = f.inside
within_means v len next (Stopped extent) h f = let i = f.inside in let k = f.counts in omega arith
within_means v len next (RanOut extent) h f = let k = f.counts in omega arith

pub walk_within : (v : ℕ → Verdict) (len next : ℕ) (r : Walked) → next ≤ len → r ≡ walk_from v len next → WalkWithin len r
walk_within v len next r h e = within_means v len next r h ((walk_means v len next r).0 (sym e))

-- the walk over the part from `start` on, counted in the whole
pub walk_part : (m : Matcher) (sign : Asked) (syllable : ℕ) (sets : List ℕ) (gs part : List Glyph) (start len next : ℕ) (r : Walked)
    → start ≤ length gs → part ≡ drop start gs → len ≡ length part → r ≡ walk_from (judge_at m sign syllable sets part) len next
    → walk_from (judge_at m sign syllable sets gs) (length gs) (start + next) ≡ raised start r
walk_part m sign syllable sets gs part start len next r h ep el er =
    let whole : length gs ≡ start + len = omega (arith, ap length ep, length-drop start gs) in
    ap (λ (n : ℕ). walk_from (judge_at m sign syllable sets gs) n (start + next)) whole
    ∙ sym (walk_onward m sign syllable sets gs start len next)
    ∙ ap (raised start) (ap (λ (l : List Glyph). walk_from (judge_at m sign syllable sets l) len next) (sym ep) ∙ sym er)
