-- A field that is copied into what is written: after any run the text has the values that it had, in their order, each any number of times or not at
-- all.
-- So every glyph after has the value of one before, and values that never fell along the text never fall.
use Rattle.std.specs.Prelude.{◌≡◌, refl, List, [], ◌∷◌, ◌++◌, ℕ, zero, suc, ◌≤◌, ◌<◌, length, get_or, take, drop}
use Rattle.std.proofs.Common.{sym, ◌∙◌, le_refl, add-one, arith}
use Rattle.glyph.specs.declared.Glyph.{Glyph}
use Rattle.glyph.specs.Glyph.{blank}
use Rattle.glyph.specs.Write.{with_id}
use Rattle.text.specs.Text.{Text, written, copies_by}
use Rattle.verdict.specs.Verdict.{Asked}
use Rattle.book.specs.Book.{Record, Chain, Lookup, Found}
use Rattle.run.specs.Run.{Match, run_on}
use Rattle.run.specs.Repair.{Repairing}
use Rattle.run.specs.Related.{run_relates}
use Rattle.run.specs.Deeds.{rules_by}
use Rattle.run.specs.DeedLaws.{KeptByWriting, writing_lasts}

-- what is written for an id has the value of the glyph that it replaces
abbrev pub Copied : {X : Type 0} → (Glyph → X) → (ℕ → Glyph → Glyph) → Type 0
Copied f write = (id : ℕ) (g : Glyph) → f (write id g) ≡ f g

-- along `before` a glyph is either passed, or its value is had once more by the next glyph of `after`
pub data Drawn {X : Type 0} (f : Glyph → X) : List Glyph → List Glyph → Type 0 where
  done : Drawn f [] []
  past : {g : Glyph} {before glyphs_after : List Glyph} → Drawn f before glyphs_after → Drawn f (g ∷ before) glyphs_after
  again : {g h : Glyph} {before glyphs_after : List Glyph} → f h ≡ f g → Drawn f (g ∷ before) glyphs_after → Drawn f (g ∷ before) (h ∷ glyphs_after)

module _ {X : Type 0} (f : Glyph → X) where
  pub drawn_same : (gs : List Glyph) → Drawn f gs gs
  drawn_same [] = done
  drawn_same (g ∷ gs) = again refl (past (drawn_same gs))

  -- what is drawn from h and b, where h has the value of g, and from b alone by `rest`
  drawn_more : {g h : Glyph} {a b c : List Glyph} → f h ≡ f g → ((c : List Glyph) → Drawn f b c → Drawn f (g ∷ a) c) → Drawn f (h ∷ b) c
      → Drawn f (g ∷ a) c
  drawn_more e rest (past {glyphs_after = glyphs_after} q) = rest glyphs_after q
  drawn_more e rest (again i q) = again (i ∙ e) (drawn_more e rest q)

  pub drawn_on : {a b c : List Glyph} → Drawn f a b → Drawn f b c → Drawn f a c
  drawn_on done q = q
  drawn_on (past p) q = past (drawn_on p q)
  drawn_on (again e p) q = drawn_more e (λ c r. drawn_on p r) q

  module _ (write : ℕ → Glyph → Glyph) (copied : Copied f write) where
    copies_drawn : (ids : List ℕ) (g : Glyph) (gs : List Glyph) → Drawn f (g ∷ gs) (copies_by write ids g ++ gs)
    copies_drawn [] g gs = past (drawn_same gs)
    copies_drawn (id ∷ ids) g gs = again (copied id g) (copies_drawn ids g gs)

    at_drawn : (ids : List ℕ) (gs : List Glyph) (i : ℕ) → i < length gs → Drawn f gs
        (take i gs ++ copies_by write ids (get_or gs i blank) ++ drop (suc i) gs)
    at_drawn ids [] i h = let z : ⊥ = omega arith in absurd z
    at_drawn ids (g ∷ gs) zero h = copies_drawn ids g gs
    at_drawn ids (g ∷ gs) (suc i) h = again refl (past (at_drawn ids gs i (omega arith)))

    pub drawn_written : KeptByWriting write (Drawn f)
    drawn_written = record {
      same = drawn_same;
      on = λ a b c p q. drawn_on p q;
      one = λ ids t h. rw (add-one t.cursor) (at_drawn ids t.glyphs t.cursor h);
    }

-- ---- every value was there

-- a glyph of the list that has the value x
pub record Has {X : Type 0} (f : Glyph → X) (gs : List Glyph) (x : X) : Type 0 where
  pub place : ℕ
  pub inside : place < length gs
  pub same : f (get_or gs place blank) ≡ x

pub drawn_has : {X : Type 0} (f : Glyph → X) {before glyphs_after : List Glyph} → Drawn f before glyphs_after → (i : ℕ) → i < length glyphs_after
    → Has f before (f (get_or glyphs_after i blank))
drawn_has f done i h = let z : ⊥ = omega arith in absurd z
drawn_has f (past p) i h =
    let q = drawn_has f p i h in
    let l = q.inside in
    record { place = suc q.place; inside = omega arith; same = q.same }
drawn_has f (again e p) zero h = record { place = 0; inside = omega arith; same = sym e }
drawn_has f (again e p) (suc i) h = drawn_has f p i (omega arith)

-- ---- values that never fall

-- a later glyph has no less
abbrev pub Steady : (Glyph → ℕ) → List Glyph → Type 0
Steady f gs = (i j : ℕ) → i ≤ j → j < length gs → f (get_or gs i blank) ≤ f (get_or gs j blank)

-- the same along the list, from `low` on
pub data NeverFalls (f : Glyph → ℕ) : ℕ → List Glyph → Type 0 where
  no_glyph : {low : ℕ} → NeverFalls f low []
  next : {low : ℕ} {gs : List Glyph} (g : Glyph) → low ≤ f g → NeverFalls f (f g) gs → NeverFalls f low (g ∷ gs)

falls_wider : (f : Glyph → ℕ) {low : ℕ} {gs : List Glyph} (low' : ℕ) → low' ≤ low → NeverFalls f low gs → NeverFalls f low' gs
falls_wider f low' l no_glyph = no_glyph
falls_wider f low' l (next g a r) = next {low = low'} g (omega arith) r

falls_from : (f : Glyph → ℕ) (low : ℕ) (gs : List Glyph) → ((i : ℕ) → i < length gs → low ≤ f (get_or gs i blank)) → Steady f gs → NeverFalls f low gs
falls_from f low [] l s = no_glyph
falls_from f low (g ∷ gs) l s =
    next {low = low} g (l 0 (omega arith))
    (falls_from f (f g) gs (λ i h. s 0 (suc i) (omega arith) (omega arith)) (λ i j a b. s (suc i) (suc j) (omega arith) (omega arith)))

falls_low : (f : Glyph → ℕ) {low : ℕ} {gs : List Glyph} → NeverFalls f low gs → (i : ℕ) → i < length gs → low ≤ f (get_or gs i blank)
falls_low f no_glyph i h = let z : ⊥ = omega arith in absurd z
falls_low f (next g a r) zero h = a
falls_low f (next g a r) (suc i) h = let q = falls_low f r i (omega arith) in omega arith

falls_steady : (f : Glyph → ℕ) {low : ℕ} {gs : List Glyph} → NeverFalls f low gs → Steady f gs
falls_steady f no_glyph i j a h = let z : ⊥ = omega arith in absurd z
falls_steady f (next g l r) zero zero a h = le_refl (f g)
falls_steady f (next g l r) zero (suc j) a h = falls_low f r j (omega arith)
falls_steady f (next g l r) (suc i) zero a h = let z : ⊥ = omega arith in absurd z
falls_steady f (next g l r) (suc i) (suc j) a h = falls_steady f r i j (omega arith) (omega arith)

pub drawn_never_falls : (f : Glyph → ℕ) {before glyphs_after : List Glyph} (low : ℕ) → Drawn f before glyphs_after → NeverFalls f low before
    → NeverFalls f low glyphs_after
drawn_never_falls f low done n = n
drawn_never_falls f low (past p) (next g a r) = drawn_never_falls f low p (falls_wider f low a r)
drawn_never_falls f low (again {h = h} e p) (next g a r) =
    let q = drawn_never_falls f (f h) p (next {low = f h} g (omega arith) r) in
    next {low = low} h (omega arith) q

pub drawn_steady : (f : Glyph → ℕ) {before glyphs_after : List Glyph} → Drawn f before glyphs_after → Steady f before → Steady f glyphs_after
drawn_steady f {before} p s = falls_steady f (drawn_never_falls f 0 p (falls_from f 0 before (λ i h. omega arith) s))

-- ---- of any run, for a field that is copied, however chains match and levels are repaired

module _ (match : ℕ → Chain Asked → Text → Match) (write : ℕ → Glyph → Glyph) (repair : Found → Repairing)
    (book : List Lookup) (d : ℕ) (rs : List Record) (positions : List ℕ) (end allowance : ℕ) (t : Text) where
  abbrev glyphs_after : List Glyph
  glyphs_after = (run_on (rules_by match write repair) book d rs positions end allowance t).run.text.glyphs

  pub run_drawn : {X : Type 0} (f : Glyph → X) → Copied f write → Drawn f t.glyphs glyphs_after
  run_drawn f c = run_relates (rules_by match write repair) book (Drawn f)
      (writing_lasts match write (Drawn f) (drawn_written f write c)) d rs positions end allowance t

  pub run_has : {X : Type 0} (f : Glyph → X) → Copied f write → (i : ℕ) → i < length glyphs_after → Has f t.glyphs (f (get_or glyphs_after i blank))
  run_has f c i h = drawn_has f (run_drawn f c) i h

  pub run_steady : (f : Glyph → ℕ) → Copied f write → Steady f t.glyphs → Steady f glyphs_after
  run_steady f c s = drawn_steady f (run_drawn f c) s

-- ---- today's rules copy all but the id; the mask and the syllable

abbrev pub mask : Glyph → ℕ
mask g = g.mask

abbrev pub syllable : Glyph → ℕ
syllable g = g.syllable

pub mask_copied : Copied mask written
unfolding with_id
mask_copied id g = refl

pub syllable_copied : Copied syllable written
unfolding with_id
syllable_copied id g = refl
