-- What a run keeps to (01, "Records over a text"): the glyphs before a record's position are untouched, and every level stays sound over its text, so
-- that no move leaves the text.
-- A lookup at the cursor changes only what follows it, and a record's position is never before its level's first; so it goes from record to level and
-- from depth to depth.
use Rattle.std.specs.Prelude.{◌≡◌, Bool, true, false, not, ◌&&◌, ltb, length, take}
use Rattle.std.proofs.Math.Path.{refl}
use Rattle.std.proofs.Common.{sym, ap, ◌∙◌, arith, ltb-true, take-take}
use mathlib.Core.List.{List, [], ◌∷◌}
use Prim.Native.Nat.{ℕ, zero, suc, ◌≤◌, ◌<◌}
use Rattle.bits.proofs.Laws.{and_left, and_right}
use Rattle.glyph.specs.declared.Glyph.{Glyph}
use Rattle.text.specs.Text.{Text, moved_to}
use Rattle.book.specs.Book.{Record, Lookup, Found, lookup_at}
use Rattle.run.specs.Repair.{Mends, Sound}
use Rattle.run.specs.Run.{Run, Stage, Effect, Made, Into, Halts, made_in, Match, Matched}
use Rattle.run.specs.Run.{Unmatched, Deed, Acts, Chains, Rules, is_over, size, changed, when}
use Rattle.run.specs.Run.{in_run, opened, chained_by, done_by, place_of, is_due, arrived}
use Rattle.run.specs.Run.{spending, tried_by, due_by, step_by, records_by, closed}
use Rattle.run.specs.Run.{acting, mending, deed_at, chain_run, lookup_run}
use Rattle.run.specs.Rises.{rises_at}

-- y has the glyphs of x before place p
pub record Kept (p : ℕ) (x y : Run) : Type 0 where
  pub before : take p y.text.glyphs ≡ take p x.text.glyphs
  pub long : p ≤ size y

-- a match that lies in the text, from the cursor on
abbrev pub Fitting : Text → Match → Type 0
Fitting t (Matched positions end) = Sound t.cursor (length t.glyphs) (record { live = true; positions = positions; end = end })
Fitting t Unmatched = Unit {0}

-- what a lookup makes of a text by itself leaves the glyphs before the cursor
abbrev pub Sparing : Text → Made → Type 0
Sparing t (Into u) = (take t.cursor u.glyphs ≡ take t.cursor t.glyphs) × (t.cursor ≤ length u.glyphs)
Sparing t (Halts why) = Unit {0}

-- at a cursor in the text
abbrev pub FairDeed : Deed → Type 0
FairDeed (Acts act) = (t : Text) → t.cursor < length t.glyphs → Sparing t (act t)
FairDeed (Chains match records) = (t : Text) → t.cursor < length t.glyphs → Fitting t (match t)

-- the lookups of the book leave what is before the cursor, their chains match in the text, and repairs keep a level sound
pub record Fair (rules : Rules) (book : List Lookup) : Type 0 where
  pub deeds : (k : ℕ) → FairDeed (deed_at rules book k)
  pub mends : (found : Found) → Mends (rules.repair found)

-- a lookup keeps what is before the cursor
abbrev pub Keeps : (Run → Run) → Type 0
Keeps f = (x : Run) → x.text.cursor < size x → Kept x.text.cursor x (f x)

-- a level over its run, which has the glyphs of x before the level's first position
pub record Good (low : ℕ) (x : Run) (v : Stage) : Type 0 where
  pub level : Sound low (size v.run) v.level
  pub kept : Kept low x v.run

kept_on : {p q : ℕ} {x y z : Run} → p ≤ q → Kept p x y → Kept q y z → Kept p x z
kept_on {p} {q} {x} {y} {z} h a b =
    let l = b.long in
    record {
      before = sym (take-take p q z.text.glyphs h) ∙ ap (λ (g : List Glyph). take p g) b.before ∙ take-take p q y.text.glyphs h
          ∙ a.before;
      long = omega arith;
    }

same_kept : (p : ℕ) (x y : Run) → y.text.glyphs ≡ x.text.glyphs → p ≤ size x → Kept p x y
same_kept p x y e h = record { before = ap (λ (g : List Glyph). take p g) e; long = omega (arith, ap (λ (g : List Glyph). length g) e) }

-- ---- a lookup

made_keeps : (m : Made) (x : Run) → x.text.cursor < size x → Sparing x.text m → Kept x.text.cursor x (made_in m x)
made_keeps (Into u) x h s = record { before = s.0; long = s.1 }
made_keeps (Halts why) x h s = same_kept x.text.cursor x (made_in (Halts why) x) refl (omega arith)

-- the records of a level keep it good
abbrev pub KeepsLevel : (Stage → Stage) → Type 0
KeepsLevel f = (low : ℕ) (x : Run) (v : Stage) → Good low x v → Good low x (f v)

chained_keeps : (f : Stage → Stage) → KeepsLevel f → (x : Run) (m : Match) → x.text.cursor < size x → Fitting x.text m
    → Kept x.text.cursor x (chained_by f m x)
chained_keeps f F x (Matched positions end) h s =
    (F x.text.cursor x (opened positions end x) (record { level = s; kept = same_kept x.text.cursor x x refl (omega arith) })).kept
chained_keeps f F x Unmatched h s = same_kept x.text.cursor x x refl (omega arith)

done_keeps : (chain : List Record → Stage → Stage) → ((rs : List Record) → KeepsLevel (chain rs)) → (deed : Deed) → FairDeed deed
    → Keeps (done_by chain deed)
done_keeps chain C (Acts act) f x h = made_keeps (act x.text) x h (f x.text h)
done_keeps chain C (Chains match rs) f x h = chained_keeps (chain rs) (C rs) x (match x.text) h (f x.text h)

-- ---- a record, for any lookups that keep what is before the cursor, and any repairs that keep a level sound

-- what a due record shows
pub record Due (r : Record) (v : Stage) : Type 0 where
  pub index : r.seq < length v.level.positions
  pub inside : place_of r v < size v.run
  pub live : v.level.live ≡ true

pub due_shows : (r : Record) (v : Stage) → is_due r v ≡ true → Due r v
due_shows r v e =
    let a = v.level.live in
    let b = not (is_over v.run.tally.ending) in
    let i = ltb r.seq (length v.level.positions) in
    let p = ltb (place_of r v) (size v.run) in
    let e₁ = and_right a (b && (i && p)) e in
    let e₂ = and_right b (i && p) e₁ in
    record {
      index = ltb-true r.seq (length v.level.positions) (and_left i p e₂);
      inside = ltb-true (place_of r v) (size v.run) (and_right i p e₂);
      live = and_left a (b && (i && p)) e;
    }

module _ (effects : ℕ → Effect) (K : (k : ℕ) → Keeps (effects k).does) (M : (k : ℕ) → Mends (effects k).repair) where
  tried_good : (d l : ℕ) (r : Record) (low : ℕ) (x : Run) (v : Stage) → Due r v → Good low x v → Good low x (tried_by effects d l r (arrived r v))
  unfolding tried_by
  tried_good d zero r low x v u g = record {
    level = record { few = g.level.few; rises = g.level.rises; begins = g.level.begins; within = g.level.within };
    kept = record { before = g.kept.before; long = g.kept.long };
  }
  tried_good zero (suc l) r low x v u g = record {
    level = record { few = g.level.few; rises = g.level.rises; begins = g.level.begins; within = g.level.within };
    kept = record { before = g.kept.before; long = g.kept.long };
  }
  tried_good (suc d) (suc l) r low x v u g =
      let y : Run = spending l (arrived r v).run in
      let k : Kept (place_of r v) y ((effects r.lookup).does y) = K r.lookup y u.inside in
      let q = rises_at r.seq u.index g.level.rises in
      let o : Kept low x y = record { before = g.kept.before; long = g.kept.long } in
      record {
        level = M r.lookup low (size v.run) v.level g.level r.seq u.index (size ((effects r.lookup).does y)) k.long;
        kept = kept_on (omega (arith, q.0)) o k;
      }

  pub step_good : (d : ℕ) (r : Record) → KeepsLevel (step_by effects d r)
  step_good d r low x v g = by (is_due r v) refl
    where
      by : (b : Bool) → is_due r v ≡ b → Good low x (when b (due_by effects d r) v)
      by true e = tried_good d v.run.tally.left r low x v (due_shows r v e) g
      by false e = g

  pub records_good : (d : ℕ) (rs : List Record) → KeepsLevel (records_by effects d rs)
  unfolding records_by
  records_good d [] low x v g = g
  records_good d (r ∷ rs) low x v g = records_good d rs low x (step_by effects d r v) (step_good d r low x v g)

closed_good : KeepsLevel closed
unfolding closed
closed_good low x v g = by (not (is_over v.run.tally.ending))
  where
    by : (b : Bool) → Good low x (in_run (when b (changed (moved_to v.level.end))) v)
    by true = record { level = g.level; kept = record { before = g.kept.before; long = g.kept.long } }
    by false = record { level = g.level; kept = g.kept }

-- ---- the book

module _ (rules : Rules) (book : List Lookup) (fair : Fair rules book) where
  -- the records of a level leave it sound, and the glyphs before its first position untouched
  pub chain_good : (d : ℕ) (rs : List Record) → KeepsLevel (chain_run rules book d rs)
  unfolding chain_run
  chain_good zero rs low x v g =
      closed_good low x _ (records_good (acting (mending rules book) (λ k y. y)) (λ k y h. same_kept y.text.cursor y y refl (omega arith))
      (λ k. fair.mends (lookup_at k book)) zero rs low x v g)
  chain_good (suc d) rs low x v g =
      closed_good low x _ (records_good (acting (mending rules book) (lookup_run rules book d))
      (λ k. done_keeps (chain_run rules book d) (chain_good d) (deed_at rules book k) (fair.deeds k)) (λ k. fair.mends (lookup_at k book))
      (suc d) rs low x v g)

  -- a lookup leaves the glyphs before the cursor untouched
  pub lookup_keeps : (d k : ℕ) → Keeps (lookup_run rules book d k)
  lookup_keeps d k = done_keeps (chain_run rules book d) (chain_good d) (deed_at rules book k) (fair.deeds k)
