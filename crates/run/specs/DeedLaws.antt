-- What lookups do is fair: kinds 1 and 2 leave the glyphs before the cursor, and a chain of a book that reads matches in the text. And a relation
-- that one replacement keeps is kept by what lookups do.
use Rattle.std.specs.Prelude.{◌≡◌, Bool, true, false, cond, List, [], ◌∷◌, ℕ, ◌≤◌, ◌<◌, length}
use Rattle.std.proofs.Math.Path.{refl}
use Rattle.std.proofs.Common.{arith}
use Rattle.std.proofs.lemmas.List.{length-map}
use Rattle.glyph.specs.declared.Glyph.{Glyph}
use Rattle.text.specs.Text.{Text, written, replaced_by, is_full}
use Rattle.text.specs.Changes.{replaced-length, replaced_before}
use Rattle.verdict.specs.Verdict.{Asked, equal_to}
use Rattle.book.specs.Book.{Chain, Lookup, Kind1, Kind2, Kind3, Found, Is, None, lookup_at, most_input}
use Rattle.run.specs.declared.Given.{Given}
use Rattle.run.specs.Run.{Reason, PastLimit, Made, Into, Halts, Match}
use Rattle.run.specs.Repair.{Repairing, Mends, repaired}
use Rattle.run.specs.Rises.{repaired_mends}
use Rattle.run.specs.Kept.{Sparing, FairDeed, Fitting, Fair}
use Rattle.run.specs.Related.{RelatedMade, LastingDeed, Lasting}
use Rattle.run.specs.Chain.{asks, chain_by}
use Rattle.run.specs.ChainLaws.{chain_fitting}
use Rattle.run.specs.Deeds.{is_at, on_id, renamed_by, multiplied_by, ids_of, deed_by, rules_by, ruled}

-- ---- what holds of writing holds of kinds 1 and 2: of a text that is left, and of one replaced

module _ (P : Text → Made → Type 0) (left : (t : Text) → t.cursor < length t.glyphs → P t (Into t))
    (halts : (t : Text) (why : Reason) → P t (Halts why)) (write : ℕ → Glyph → Glyph)
    (one : (ids : List ℕ) (t : Text) → t.cursor < length t.glyphs → P t (Into (replaced_by write ids t))) where
  on_id_lem : (from : ℕ) (act : Text → Made) → ((t : Text) → t.cursor < length t.glyphs → P t (act t))
      → (t : Text) → t.cursor < length t.glyphs → P t (on_id from act t)
  on_id_lem from act A t h = by (is_at from t)
    where
      by : (b : Bool) → P t (cond b (act t) (Into t))
      by true = A t h
      by false = left t h

  -- what a test halts
  or_halts : (t : Text) (why : Reason) (b : Bool) (m : Made) → P t m → P t (cond b (Halts why) m)
  or_halts t why true m p = halts t why
  or_halts t why false m p = p

  pub renames : (from to : ℕ) (t : Text) → t.cursor < length t.glyphs → P t (on_id from (renamed_by write to) t)
  renames from to = on_id_lem from (renamed_by write to) (one (to ∷ []))

  pub multiplies : (from : ℕ) (ids : List ℕ) (t : Text) → t.cursor < length t.glyphs → P t (on_id from (multiplied_by write ids) t)
  multiplies from ids = on_id_lem from (multiplied_by write ids)
      (λ t h. or_halts t PastLimit (is_full (length t.glyphs) (length ids)) (Into (replaced_by write ids t)) (one ids t h))

-- ---- fair

replaced_spares : (write : ℕ → Glyph → Glyph) (ids : List ℕ) (t : Text) → t.cursor < length t.glyphs → Sparing t (Into (replaced_by write ids t))
replaced_spares write ids t h = (replaced_before write ids t (omega arith), omega (arith, replaced-length write ids t h))

unchanged_spares : (t : Text) → t.cursor < length t.glyphs → Sparing t (Into t)
unchanged_spares t h = (refl, omega arith)

module _ (match : ℕ → Chain Asked → Text → Match) (write : ℕ → Glyph → Glyph) where
  -- any way to write; chains that match in the text
  deed_fair : (found : Found) → ((props : ℕ) (c : Chain ℕ) → found ≡ Is (Kind3 props c) → (t : Text) → t.cursor < length t.glyphs
      → Fitting t (match props (ids_of c) t))
      → FairDeed (deed_by match write found)
  unfolding deed_by
  deed_fair (Is (Kind1 props from to)) m = renames Sparing unchanged_spares (λ t why. tt) write (replaced_spares write) from to
  deed_fair (Is (Kind2 props from ids)) m = multiplies Sparing unchanged_spares (λ t why. tt) write (replaced_spares write) from ids
  deed_fair (Is (Kind3 props c)) m = m props c refl
  deed_fair None m = unchanged_spares

-- no chain of the book has over 63 input values
abbrev pub FewValues : List Lookup → Type 0
FewValues book = (k props : ℕ) (c : Chain ℕ) → lookup_at k book ≡ Is (Kind3 props c) → length c.input ≤ most_input

pub few_ids : (c : Chain ℕ) → length c.input ≤ most_input → length (ids_of c).input ≤ most_input
few_ids c few = omega (arith, few, length-map c.input equal_to)

-- 01's chains, whatever is written and however levels are repaired, as long as repairs keep them sound
pub rules_fair : (given : Given) (sets : List ℕ) (write : ℕ → Glyph → Glyph) (repair : Found → Repairing) → ((found : Found) → Mends (repair found))
    → (book : List Lookup) → FewValues book → Fair (rules_by (chain_by given sets) write repair) book
rules_fair given sets write repair mends book few = record {
  deeds = λ k. deed_fair (chain_by given sets) write (lookup_at k book)
      (λ props c e t h. chain_fitting (asks given props) sets t h (ids_of c) (few_ids c (few k props c e)));
  mends = mends;
}

pub ruled_fair : (given : Given) (sets : List ℕ) (book : List Lookup) → FewValues book → Fair (ruled given sets) book
ruled_fair given sets = rules_fair given sets written (λ found. repaired) (λ found. repaired_mends)

-- ---- a relation that one replacement keeps

pub record KeptByWriting (write : ℕ → Glyph → Glyph) (R : List Glyph → List Glyph → Type 0) : Type 0 where
  pub same : (a : List Glyph) → R a a
  pub on : (a b c : List Glyph) → R a b → R b c → R a c
  pub one : (ids : List ℕ) (t : Text) → t.cursor < length t.glyphs → R t.glyphs (replaced_by write ids t).glyphs

module _ (match : ℕ → Chain Asked → Text → Match) (write : ℕ → Glyph → Glyph) (R : List Glyph → List Glyph → Type 0)
    (kept : KeptByWriting write R) where
  deed_lasts : (found : Found) → LastingDeed R (deed_by match write found)
  unfolding deed_by
  deed_lasts (Is (Kind1 props from to)) = renames (RelatedMade R) (λ t h. kept.same t.glyphs) (λ t why. tt) write kept.one from to
  deed_lasts (Is (Kind2 props from ids)) = multiplies (RelatedMade R) (λ t h. kept.same t.glyphs) (λ t why. tt) write kept.one from ids
  deed_lasts (Is (Kind3 props c)) = tt
  deed_lasts None = λ t h. kept.same t.glyphs

  -- so it is kept by every run
  pub writing_lasts : Lasting (deed_by match write) R
  writing_lasts = record { same = kept.same; on = kept.on; deeds = deed_lasts }
