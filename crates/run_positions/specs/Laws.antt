-- What stands in each slot after a gain, a loss and an opening, and that 64 slots filled so hold the positions.
use Rattle.std.specs.Prelude.{◌≡◌, List, [], ◌∷◌, ◌++◌, map, set, take, drop, replicate}
use Rattle.std.proofs.Common.{sym, ◌∙◌, length-append, length-take-le, ext_get_or, get_or-set_same, get_or-set_other}
use Rattle.std.proofs.Math.Path.{ap, subst}
use Prim.Native.Nat.{ℕ, zero, suc, ◌+◌, ◌-◌, ◌≤◌, ◌<◌}
use Rattle.std.proofs.Math.Decide.{dec_lt}
use native.Mathlib.Omega.{arith}
use Rattle.std.proofs.Math.ListN.{length, get_or, length-drop, get_or-append, get_or-eq_default}
use Rattle.std.proofs.lemmas.List.{get_or-map, length-map, length-replicate, get_or-replicate}
use Rattle.std.proofs.Math.Seq.{get_or-take, get_or-drop, get_or-append-add, take-append_seam}
use Rattle.glyph.specs.Glyph.{limit}
use Rattle.matching.specs.Take.{slots}
use Rattle.matching.specs.Answers.{slotted}
use Rattle.run.specs.Repair.{Level, following, with_gain, with_loss, Sound}
use Rattle.run.specs.Rises.{rises_at, length-following, length_gained, length-lost}
use Rattle.run_positions.specs.declared.Slots.{Slots}
use Rattle.run_positions.specs.Slots.{level_of, shown, Neat, Placed}
use Rattle.run.specs.Run.{from_done}

-- ---- levels and slots

pub level_shown : (lv : Level) → level_of (shown lv) ≡ lv
level_shown lv = let e = take-append_seam lv.positions (replicate (slots - length lv.positions) 0) in
    λ j. record { live = lv.live; positions = e j; end = lv.end }

pub shown_neat : (lv : Level) → Neat (shown lv)
shown_neat lv = ap shown (level_shown lv)

pub count_is : (s : Slots) → Neat s → length (take s.count s.at) ≡ s.count
count_is s n = ap (λ (x : Slots). x.count) n

-- u16 holds every position that a repair writes
pub limit_fits : limit + slots < 65536
unfolding limit
limit_fits = omega arith

-- ---- 64 slots, filled one a turn

pub filled_more : (P : ℕ → ℕ → Type 0) (out : List ℕ) (j v : ℕ) → j < length out → ((k : ℕ) → k < j → P k (get_or out k 0)) → P j v
    → (k : ℕ) → k < j + 1 → P k (get_or (set out j v) k 0)
filled_more P out j v h f e k l = elim (dec_lt k j) [
  | yes b ↦ subst (P k) (sym (get_or-set_other out j k v 0 (λ q. let z : ⊥ = omega arith in absurd z))) (f k b)
  | no b ↦ let q : j ≡ k = omega arith in
      subst (λ (n : ℕ). P n (get_or (set out j v) n 0)) q (subst (P j) (sym (get_or-set_same out j v 0 h)) e)
]

slotted_at : (L : List ℕ) (k : ℕ) → get_or (slotted L) k 0 ≡ get_or L k 0
slotted_at [] k = elim (dec_lt k slots) [
  | yes b ↦ get_or-replicate slots k 0 0 b
  | no b ↦ get_or-eq_default (replicate slots 0) 0 {n = k} (omega (arith, length-replicate {A = ℕ} slots 0))
]
slotted_at (x ∷ L) k = elim (dec_lt k (length (x ∷ L))) [
  | yes b ↦ get_or-append (x ∷ L) (replicate (slots - length (x ∷ L)) 0) 0 k b
  | no b ↦
      let m : ℕ = k - length (x ∷ L) in
      let e : k ≡ length (x ∷ L) + m = omega arith in
      ap (λ (n : ℕ). get_or (slotted (x ∷ L)) n 0) e ∙ get_or-append-add (x ∷ L) (replicate (slots - length (x ∷ L)) 0) m 0
      ∙ zeros_at (slots - length (x ∷ L)) m ∙ sym (get_or-eq_default (x ∷ L) 0 {n = k} (omega arith))
]
  where
    zeros_at : (n m : ℕ) → ◌≡◌ {A = ℕ} (get_or (replicate n 0) m 0) 0
    zeros_at n m = elim (dec_lt m n) [
      | yes b ↦ get_or-replicate n m 0 0 b
      | no b ↦ get_or-eq_default (replicate n 0) 0 {n = m}
          (omega (arith, length-replicate {A = ℕ} n 0))
    ]

pub filled_all : (out L : List ℕ) (j : ℕ) → length out ≡ slots → slots ≤ j → length L ≤ slots → ((k : ℕ) → k < j → get_or out k 0 ≡ get_or L k 0)
    → out ≡ slotted L
filled_all out L j n h few f =
    ext_get_or 0 out (slotted L) (let e = length-replicate {A = ℕ} (slots - length L) 0 in simp length-append (omega arith))
    (λ k l. f k (omega arith) ∙ sym (slotted_at L k))

-- those that no turn has come to are 0 still
pub none_at : (k : ℕ) → get_or (slotted []) k 0 ≡ 0
none_at k = slotted_at [] k

pub none_more : (out : List ℕ) (j v : ℕ) → ((k : ℕ) → j ≤ k → get_or out k 0 ≡ 0) → (k : ℕ) → j + 1 ≤ k → get_or (set out j v) k 0 ≡ 0
none_more out j v f k l = get_or-set_other out j k v 0 (λ q. let z : ⊥ = omega arith in absurd z) ∙ f k (omega arith)

-- so it is enough to fill as many as there are positions
pub filled_few : (out L : List ℕ) (j : ℕ) → length out ≡ slots → length L ≤ j → length L ≤ slots → ((k : ℕ) → k < j → get_or out k 0 ≡ get_or L k 0)
    → ((k : ℕ) → j ≤ k → get_or out k 0 ≡ 0) → out ≡ slotted L
filled_few out L j n h few f g =
    filled_all out L slots n (omega arith) few
    (λ k l. elim (dec_lt k j) [
      | yes b ↦ f k b
      | no b ↦ g k (omega arith) ∙ sym (get_or-eq_default L 0 {n = k} (omega arith))
    ])

-- ---- a gain

following_at : (p n k : ℕ) → k < n → get_or (following p n) k 0 ≡ p + suc k
unfolding following
following_at p zero k h = let z : ⊥ = omega arith in absurd z
following_at p (suc n) zero h = omega arith
following_at p (suc n) (suc k) h = following_at (p + 1) n k (omega arith) ∙ (let e : p + 1 + suc k ≡ p + suc (suc k) = omega arith in e)

module _ (ps : List ℕ) (i n : ℕ) (h : i < length ps) where
  abbrev T : List ℕ
  T = take (suc i) ps

  abbrev F : List ℕ
  F = following (get_or ps i 0) n

  abbrev U : List ℕ
  U = map (λ p. p + n) (drop (suc i) ps)

  length_of_front : length T ≡ suc i
  length_of_front = length-take-le (suc i) ps h

  length_of_both : length (T ++ F) ≡ suc i + n
  length_of_both = let a = length_of_front in let b = length-following (get_or ps i 0) n in simp length-append (omega arith)

  pub gained_before : (j : ℕ) → j ≤ i → get_or (with_gain i n ps) j 0 ≡ get_or ps j 0
  unfolding with_gain
  gained_before j l =
      let a = length_of_front in
      let b = length_of_both in
      get_or-append (T ++ F) U 0 j (omega arith) ∙ get_or-append T F 0 j (omega arith) ∙ get_or-take (suc i) ps j 0 (omega arith)

  pub gained_new : (j : ℕ) → i < j → j ≤ i + n → get_or (with_gain i n ps) j 0 ≡ get_or ps i 0 + (j - i)
  unfolding with_gain
  gained_new j l m =
      let a = length_of_front in
      let b = length_of_both in
      let k : ℕ = j - suc i in
      let e : j ≡ length T + k = omega arith in
      let f : get_or ps i 0 + suc (j - suc i) ≡ get_or ps i 0 + (j - i) = omega arith in
      get_or-append (T ++ F) U 0 j (omega arith)
      ∙ ap (λ (x : ℕ). get_or (T ++ F) x 0) e ∙ get_or-append-add T F k 0 ∙ following_at (get_or ps i 0) n k (omega arith) ∙ f

  pub gained_later : (j : ℕ) → i + n < j → j < length ps + n → get_or (with_gain i n ps) j 0 ≡ get_or ps (j - n) 0 + n
  unfolding with_gain
  gained_later j l m =
      let b = length_of_both in
      let k : ℕ = j - (suc i + n) in
      let e : j ≡ length (T ++ F) + k = omega arith in
      let q : suc i + k ≡ j - n = omega arith in
      ap (λ (x : ℕ). get_or (with_gain i n ps) x 0) e ∙ get_or-append-add (T ++ F) U k 0
      ∙ get_or-map (λ p. p + n) (drop (suc i) ps) k 0 0 (omega (arith, length-drop (suc i) ps))
      ∙ ap (λ (x : ℕ). x + n) (get_or-drop (suc i) ps k 0 ∙ ap (λ (x : ℕ). get_or ps x 0) q)

  pub gained_past : (j : ℕ) → length ps + n ≤ j → get_or (with_gain i n ps) j 0 ≡ 0
  gained_past j l = get_or-eq_default (with_gain i n ps) 0 {n = j} (omega (arith, length_gained i n ps h))

  -- ---- a loss

  abbrev D : List ℕ
  D = drop n (drop (suc i) ps)

  pub lost_before : (j : ℕ) → j ≤ i → get_or (with_loss i n ps) j 0 ≡ get_or ps j 0
  unfolding with_loss
  lost_before j l = let a = length_of_front in get_or-append T (map (λ p. p - n) D) 0 j (omega arith) ∙ get_or-take (suc i) ps j 0 (omega arith)

  pub lost_later : (j : ℕ) → i < j → j + n < length ps → get_or (with_loss i n ps) j 0 ≡ get_or ps (j + n) 0 - n
  unfolding with_loss
  lost_later j l m =
      let a = length_of_front in
      let k : ℕ = j - suc i in
      let e : j ≡ length T + k = omega arith in
      let q : suc i + (n + k) ≡ j + n = omega arith in
      let s : k < length D = omega (arith, length-drop n (drop (suc i) ps), length-drop (suc i) ps) in
      ap (λ (x : ℕ). get_or (with_loss i n ps) x 0) e ∙ get_or-append-add T (map (λ p. p - n) D) k 0 ∙ get_or-map (λ p. p - n) D k 0 0 s
      ∙ ap (λ (x : ℕ). x - n) (get_or-drop n (drop (suc i) ps) k 0 ∙ get_or-drop (suc i) ps (n + k) 0 ∙ ap (λ (x : ℕ). get_or ps x 0) q)

  pub lost_past : (j : ℕ) → n ≤ length ps - suc i → length ps ≤ j + n → get_or (with_loss i n ps) j 0 ≡ 0
  lost_past j k l = get_or-eq_default (with_loss i n ps) 0 {n = j} (omega (arith, length-lost i n ps h k))

-- ---- the same of slots, with the tests that the code makes

module _ (at : List ℕ) (count i n : ℕ) (p : Placed at count) (h : i < count) where
  abbrev ps : List ℕ
  ps = take count at

  pub size_is : length (take count at) ≡ count
  size_is = length-take-le count at (omega (arith, p.all, p.few))

  at_is : (k : ℕ) → k < count → get_or (take count at) k 0 ≡ get_or at k 0
  at_is k l = get_or-take count at k 0 l

  pub gain_before : (j : ℕ) → j ≤ i → get_or at j 0 ≡ get_or (with_gain i n (take count at)) j 0
  gain_before j l = sym (gained_before ps i n (omega (arith, size_is)) j l ∙ at_is j (omega arith))

  pub gain_new : (j : ℕ) → i < j → j ≤ i + n → get_or at i 0 + (j - i) ≡ get_or (with_gain i n (take count at)) j 0
  gain_new j l m = sym (gained_new ps i n (omega (arith, size_is)) j l m ∙ ap (λ (x : ℕ). x + (j - i)) (at_is i h))

  pub gain_later : (j : ℕ) → i + n < j → j < count + n → get_or at (j - n) 0 + n ≡ get_or (with_gain i n (take count at)) j 0
  gain_later j l m = sym (gained_later ps i n (omega (arith, size_is)) j l (omega (arith, size_is))
      ∙ ap (λ (x : ℕ). x + n) (at_is (j - n) (omega arith)))

  pub gain_past : (j : ℕ) → count + n ≤ j → 0 ≡ get_or (with_gain i n (take count at)) j 0
  gain_past j l = sym (gained_past ps i n (omega (arith, size_is)) j (omega (arith, size_is)))

  pub loss_before : (j : ℕ) → j ≤ i → get_or at j 0 ≡ get_or (with_loss i n (take count at)) j 0
  loss_before j l = sym (lost_before ps i n (omega (arith, size_is)) j l ∙ at_is j (omega arith))

  pub loss_later : (j : ℕ) → i < j → j + n < count → get_or at (j + n) 0 - n ≡ get_or (with_loss i n (take count at)) j 0
  loss_later j l m = sym (lost_later ps i n (omega (arith, size_is)) j l (omega (arith, size_is)) ∙ ap (λ (x : ℕ). x - n) (at_is (j + n) m))

  pub loss_past : (j : ℕ) → n ≤ count - (i + 1) → count ≤ j + n → 0 ≡ get_or (with_loss i n (take count at)) j 0
  loss_past j k l = sym (lost_past ps i n (omega (arith, size_is)) j (omega (arith, size_is)) (omega (arith, size_is)))

  pub gain_few : count + n ≤ slots → length (with_gain i n (take count at)) ≤ slots
  gain_few l = omega (arith, length_gained i n ps (omega (arith, size_is)), size_is)

  pub gain_long : length (with_gain i n (take count at)) ≡ count + n
  gain_long = omega (arith, length_gained i n ps (omega (arith, size_is)), size_is)

  pub loss_few : n ≤ count - (i + 1) → length (with_loss i n (take count at)) ≤ slots
  loss_few k = omega (arith, length-lost i n ps (omega (arith, size_is)) (omega (arith, size_is)), size_is, p.few)

  pub loss_long : n ≤ count - (i + 1) → length (with_loss i n (take count at)) ≡ count - n
  loss_long k = omega (arith, length-lost i n ps (omega (arith, size_is)) (omega (arith, size_is)), size_is)

-- what the code asks of a slot
pub ruleset gains = (gain_before, gain_new, gain_later)

pub ruleset losses = (loss_before, loss_later)

module _ (idx d : ℕ) (places : List ℕ) (count : ℕ) (all : length places ≡ slots) (few : count ≤ slots) where
  many : length (take count places) ≡ count
  many = length-take-le count places (omega arith)

  pub open_at : (j : ℕ) → j < count → from_done idx d (get_or places j 0) ≡ get_or (map (from_done idx d) (take count places)) j 0
  open_at j h = sym (get_or-map (from_done idx d) (take count places) j 0 0 (omega (arith, many))
      ∙ ap (from_done idx d) (get_or-take count places j 0 h))

  pub open_past : (j : ℕ) → count ≤ j → 0 ≡ get_or (map (from_done idx d) (take count places)) j 0
  open_past j h = sym (get_or-eq_default (map (from_done idx d) (take count places)) 0 {n = j}
      (omega (arith, length-map (take count places) (from_done idx d), many)))

  pub open_many : length (map (from_done idx d) (take count places)) ≡ count
  open_many = length-map (take count places) (from_done idx d) ∙ many

-- ---- the positions of a sound level

slotted_all : (l : List ℕ) → length l ≤ slots → length (slotted l) ≡ slots
slotted_all l h = let e = length-replicate {A = ℕ} (slots - length l) 0 in simp length-append (omega arith)

pub placed : {size : ℕ} (s : Slots) → Neat s → Sound 0 size (level_of s) → size ≤ limit → Placed s.at s.count
placed s n o h =
    let c = count_is s n in
    let w = o.within in
    record {
      all = ap (λ (x : Slots). length x.at) (sym n) ∙ slotted_all (take s.count s.at) o.few;
      few = omega (arith, o.few);
      low = λ k l. let q = rises_at k (omega arith) o.rises in omega (arith, q.1, get_or-take s.count s.at k 0 l);
      high = λ k l. let q = rises_at k (omega arith) o.rises in omega (arith, q.0, get_or-take s.count s.at k 0 l);
    }
