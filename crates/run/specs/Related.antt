-- What any run keeps between the text before it and the text after it: every relation of lists of glyphs that is reflexive and transitive and that
-- each lookup's own act keeps, at a cursor in the text. So what is promised of whole runs needs only be shown of one act, and where lookups only
-- write, of one replacement.
use Rattle.std.specs.Prelude.{◌≡◌, Bool, not, length}
use Rattle.std.proofs.Math.Path.{refl}
use Rattle.std.proofs.Math.Bool.{true, false}
use mathlib.Core.List.{List, [], ◌∷◌}
use Prim.Native.Nat.{ℕ, zero, suc, ◌<◌}
use Rattle.glyph.specs.declared.Glyph.{Glyph}
use Rattle.text.specs.Text.{Text, moved_to}
use Rattle.book.specs.Book.{Record, Lookup, Found, lookup_at}
use Rattle.run.specs.Run.{Run, Stage, Effect, Made, Into, Halts, made_in, Match, Matched}
use Rattle.run.specs.Run.{Unmatched, Deed, Acts, Chains, Rules, is_over, size, changed}
use Rattle.run.specs.Run.{when, opened, begun, chained_by, done_by, is_due, arrived, spending, tried_by, due_by, step_by, records_by, closed}
use Rattle.run.specs.Run.{acting, mending, deed_at, chain_run, lookup_run, run_on}
use Rattle.run.specs.Kept.{Due, due_shows}

-- a text and what was made of it are related, or nothing was made of it
abbrev pub RelatedMade : (List Glyph → List Glyph → Type 0) → Text → Made → Type 0
RelatedMade R t (Into u) = R t.glyphs u.glyphs
RelatedMade R t (Halts why) = Unit {0}

-- a chain's own records do the rest
abbrev pub LastingDeed : (List Glyph → List Glyph → Type 0) → Deed → Type 0
LastingDeed R (Acts act) = (t : Text) → t.cursor < length t.glyphs → RelatedMade R t (act t)
LastingDeed R (Chains match records) = Unit {0}

-- what a relation has to be, for what lookups do
pub record Lasting (deed : Found → Deed) (R : List Glyph → List Glyph → Type 0) : Type 0 where
  pub same : (a : List Glyph) → R a a
  pub on : (a b c : List Glyph) → R a b → R b c → R a c
  pub deeds : (found : Found) → LastingDeed R (deed found)

module _ (rules : Rules) (book : List Lookup) (R : List Glyph → List Glyph → Type 0) (lasting : Lasting rules.deed R) where
  -- from a cursor in the text
  abbrev Relates : (Run → Run) → Type 0
  Relates f = (x : Run) → x.text.cursor < size x → R x.text.glyphs (f x).text.glyphs

  abbrev RelatesLevel : (Stage → Stage) → Type 0
  RelatesLevel f = (v : Stage) → R v.run.text.glyphs (f v).run.text.glyphs

  unchanged : (x : Run) → R x.text.glyphs x.text.glyphs
  unchanged x = lasting.same x.text.glyphs

  made_relates : (m : Made) (x : Run) → RelatedMade R x.text m → R x.text.glyphs (made_in m x).text.glyphs
  made_relates (Into t) x r = r
  made_relates (Halts why) x r = unchanged x

  chained_relates : (f : Stage → Stage) → RelatesLevel f → (x : Run) (m : Match) → R x.text.glyphs (chained_by f m x).text.glyphs
  chained_relates f F x (Matched positions end) = F (opened positions end x)
  chained_relates f F x Unmatched = unchanged x

  done_relates : (chain : List Record → Stage → Stage) → ((rs : List Record) → RelatesLevel (chain rs)) → (deed : Deed) → LastingDeed R deed
      → Relates (done_by chain deed)
  done_relates chain C (Acts act) l x h = made_relates (act x.text) x (l x.text h)
  done_relates chain C (Chains match rs) l x h = chained_relates (chain rs) (C rs) x (match x.text)

  deed_relates : (chain : List Record → Stage → Stage) → ((rs : List Record) → RelatesLevel (chain rs)) → (k : ℕ)
      → Relates (done_by chain (deed_at rules book k))
  deed_relates chain C k = done_relates chain C (deed_at rules book k) (lasting.deeds (lookup_at k book))

  module _ (effects : ℕ → Effect) (F : (k : ℕ) → Relates (effects k).does) where
    tried_relates : (d l : ℕ) (r : Record) (v : Stage) → Due r v → R v.run.text.glyphs (tried_by effects d l r (arrived r v)).run.text.glyphs
    unfolding tried_by
    tried_relates d zero r v u = unchanged v.run
    tried_relates zero (suc l) r v u = unchanged v.run
    tried_relates (suc d) (suc l) r v u = F r.lookup (spending l (arrived r v).run) u.inside

    step_relates : (d : ℕ) (r : Record) → RelatesLevel (step_by effects d r)
    step_relates d r v = by (is_due r v) refl
      where
        by : (b : Bool) → is_due r v ≡ b → R v.run.text.glyphs (when b (due_by effects d r) v).run.text.glyphs
        by true e = tried_relates d v.run.tally.left r v (due_shows r v e)
        by false e = unchanged v.run

    records_relates : (d : ℕ) (rs : List Record) → RelatesLevel (records_by effects d rs)
    unfolding records_by
    records_relates d [] v = unchanged v.run
    records_relates d (r ∷ rs) v = lasting.on _ _ _ (step_relates d r v) (records_relates d rs (step_by effects d r v))

  closed_same : (v : Stage) → (closed v).run.text.glyphs ≡ v.run.text.glyphs
  unfolding closed
  closed_same v = by (not (is_over v.run.tally.ending))
    where
      by : (b : Bool) → (when b (changed (moved_to v.level.end)) v.run).text.glyphs ≡ v.run.text.glyphs
      by true = refl
      by false = refl

  -- a level ends by a move, which changes no glyph
  closing : (f : Stage → Stage) → RelatesLevel f → RelatesLevel (λ v. closed (f v))
  closing f F v = rw (closed_same (f v)) (F v)

  -- the records of a level, whatever its positions
  pub chain_relates : (d : ℕ) (rs : List Record) → RelatesLevel (chain_run rules book d rs)
  unfolding chain_run
  chain_relates zero rs = closing _ (records_relates (acting (mending rules book) (λ k x. x)) (λ k x h. unchanged x) zero rs)
  chain_relates (suc d) rs =
      closing _ (records_relates (acting (mending rules book) (lookup_run rules book d)) (deed_relates (chain_run rules book d) (chain_relates d))
      (suc d) rs)

  pub lookup_relates : (d k : ℕ) → Relates (lookup_run rules book d k)
  lookup_relates d k = deed_relates (chain_run rules book d) (chain_relates d) k

  -- a run handed a match
  pub run_relates : (d : ℕ) (rs : List Record) (positions : List ℕ) (end allowance : ℕ) (t : Text)
      → R t.glyphs (run_on rules book d rs positions end allowance t).run.text.glyphs
  run_relates d rs positions end allowance t = chain_relates d rs (opened positions end (begun allowance t))
