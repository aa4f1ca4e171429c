-- Laws of repair: positions stay rising, none passes the end, and there are at most 64.
-- Each law goes along the list to the record's position; there the new positions fit between it and the later ones, which move by as much as the end
-- does.
use Rattle.std.specs.Prelude.{◌≡◌, Bool, cond, List, ◌++◌, map, ℕ, zero, suc, ◌+◌, ◌-◌, ◌≤◌, ◌<◌, min, length, get_or, drop}
use Rattle.std.proofs.Math.Path.{refl}
use Rattle.std.proofs.Common.{ap, length-append, length-take, length-drop}
use Rattle.std.proofs.Math.Bool.{true, false}
use native.Mathlib.Omega.{arith}
use borrow.Author.Tests.{leb-true, ltb-true, ltb-false}
use Rattle.std.proofs.Math.Dec.{leb, ltb}
use Rattle.std.proofs.lemmas.List.{length-map}
use Rattle.run.specs.Repair.{Level, most_positions, following, with_gain, with_loss, grown_by, shrunk_by, raised_to}
use Rattle.run.specs.Repair.{held_back, repaired, Rises, Sound, Mends, no_position, next}

pub rises_wider : {low end : ℕ} {ps : List ℕ} (low' end' : ℕ) → low' ≤ low → end ≤ end' → Rises low end ps → Rises low' end' ps
rises_wider low' end' l e no_position = no_position
rises_wider low' end' l e (next p a b r) = next {low = low'} {end = end'} p (omega arith) (omega arith) (rises_wider (p + 1) end' (omega arith) e r)

-- a position of the list
pub rises_at : {low end : ℕ} {ps : List ℕ} (i : ℕ) → i < length ps → Rises low end ps → (low + i ≤ get_or ps i 0) × (get_or ps i 0 ≤ end)
rises_at i h no_position = let z : ⊥ = omega arith in absurd z
rises_at zero h (next p a b r) = (omega arith, b)
rises_at (suc i) h (next p a b r) = let q = rises_at i (omega arith) r in (omega (arith, q.0), q.1)

-- what is left without the first n is n further on
pub rises_drop : {low end : ℕ} {ps : List ℕ} (n : ℕ) → Rises low end ps → Rises (low + n) end (drop n ps)
rises_drop {low} {end} zero r = rises_wider (low + 0) end (omega arith) (omega arith) r
rises_drop (suc n) no_position = no_position
rises_drop {low} {end} (suc n) (next p a b r) = rises_wider (low + suc n) end (omega arith) (omega arith) (rises_drop {low = p + 1} n r)

rises_up : {low end : ℕ} {ps : List ℕ} (n : ℕ) → Rises low end ps → Rises (low + n) (end + n) (map (λ p. p + n) ps)
rises_up n no_position = no_position
rises_up {low} {end} n (next p a b r) = next {low = low + n} {end = end + n} (p + n) (omega arith) (omega arith)
    (rises_wider (p + n + 1) (end + n) (omega arith) (omega arith) (rises_up n r))

rises_down : (low : ℕ) {start end : ℕ} {ps : List ℕ} (n : ℕ) → start ≡ low + n → Rises start end ps → Rises low (end - n) (map (λ p. p - n) ps)
rises_down low n e no_position = no_position
rises_down low {end = end} n e (next p a b r) = next {low = low} {end = end - n} (p - n) (omega arith) (omega arith)
    (rises_down (p - n + 1) n (omega arith) r)

rises_join : {low end m : ℕ} {a b : List ℕ} → m ≤ end → low ≤ m + 1 → Rises low m a → Rises (m + 1) end b → Rises low end (a ++ b)
rises_join {low} {end} h l no_position s = rises_wider low end l (omega arith) s
rises_join {low} {end} h l (next p x y r) s = next {low = low} {end = end} p x (omega arith) (rises_join h (omega arith) r s)

following_rises : (p n : ℕ) → Rises (p + 1) (p + n) (following p n)
unfolding following
following_rises p zero = no_position
following_rises p (suc n) = next {low = p + 1} {end = p + suc n} (p + 1) (omega arith) (omega arith)
    (rises_wider (p + 1 + 1) (p + suc n) (omega arith) (omega arith) (following_rises (p + 1) n))

pub length-following : (p n : ℕ) → length (following p n) ≡ n
unfolding following
length-following p zero = refl
length-following p (suc n) = ap suc (length-following (p + 1) n)

-- ---- a gain

pub gained_rises : {low end : ℕ} {ps : List ℕ} (i n : ℕ) → i < length ps → Rises low end ps → Rises low (end + n) (with_gain i n ps)
unfolding with_gain
gained_rises i n h no_position = let z : ⊥ = omega arith in absurd z
gained_rises {low} {end} zero n h (next p a b r) =
    let up = rises_wider (p + n + 1) (end + n) (omega arith) (omega arith) (rises_up n r) in
    next {low = low} {end = end + n} p a (omega arith) (rises_join {m = p + n} (omega arith) (omega arith) (following_rises p n) up)
gained_rises {low} {end} (suc i) n h (next p a b r) = next {low = low} {end = end + n} p a (omega arith) (gained_rises i n (omega arith) r)

pub length_gained : (i n : ℕ) (ps : List ℕ) → i < length ps → length (with_gain i n ps) ≡ length ps + n
unfolding with_gain
length_gained i n ps h = simp (length-append, length-map, length-take, length-drop, length-following) (omega arith)

-- ---- a loss; where positions are left after the dropped ones, the end came back as far as they did

tail_rises : (low end' : ℕ) {start end : ℕ} {ps : List ℕ} (n : ℕ) → start ≡ low + n → (1 ≤ length ps → end - n ≤ end') → Rises start end ps
    → Rises low end' (map (λ p. p - n) ps)
tail_rises low end' n e m no_position = no_position
tail_rises low end' n e m (next p a b r) = rises_wider low end' (omega arith) (m (omega arith)) (rises_down low n e (next p a b r))

pub lost_rises : {low end : ℕ} {ps : List ℕ} (i n end' : ℕ) → i < length ps → get_or ps i 0 ≤ end' → (n + suc i < length ps → end - n ≤ end')
    → Rises low end ps → Rises low end' (with_loss i n ps)
unfolding with_loss
lost_rises i n end' h k m no_position = let z : ⊥ = omega arith in absurd z
lost_rises {low} zero n end' h k m (next {ps = ps} p a b r) =
    next {low = low} {end = end'} p a k (tail_rises (p + 1) end' n refl (λ o. m (omega (arith, length-drop n ps))) (rises_drop n r))
lost_rises {low} (suc i) n end' h k m (next {ps = ps} p a b r) =
    let q = rises_at i (omega arith) r in
    next {low = low} {end = end'} p a (omega (arith, q.0)) (lost_rises i n end' (omega arith) k (λ o. m (omega arith)) r)

pub length-lost : (i n : ℕ) (ps : List ℕ) → i < length ps → n ≤ length ps - suc i → length (with_loss i n ps) ≡ length ps - n
unfolding with_loss
length-lost i n ps h k = simp (length-append, length-map, length-take, length-drop) (omega arith)

-- ---- repair

-- where more positions follow than go, as many go as the end comes back
all_went : (back count i end : ℕ) → min back (count - suc i) + suc i < count → end - min back (count - suc i) ≤ end - back
all_went back count i end o = omega arith

module _ {low old : ℕ} {lv : Level} (s : Sound low old lv) (i : ℕ) (h : i < length lv.positions) where
  place : (low + i ≤ get_or lv.positions i 0) × (get_or lv.positions i 0 ≤ lv.end)
  place = rises_at i h s.rises

  pub grown_sound : (n : ℕ) → Sound low (old + n) (grown_by i n lv)
  unfolding grown_by
  grown_sound n = by (leb (length lv.positions + n) most_positions) refl
    where
      by : (c : Bool) → leb (length lv.positions + n) most_positions ≡ c → Sound low (old + n)
          (cond c (record { live = lv.live; positions = with_gain i n lv.positions; end = lv.end + n })
          (record { live = false; positions = lv.positions; end = lv.end + n }))
      by true e =
          let l = leb-true (length lv.positions + n) most_positions e in
          let b = s.begins in
          let w = s.within in
          record {
            few = omega (arith, length_gained i n lv.positions h);
            rises = gained_rises i n h s.rises;
            begins = omega arith;
            within = omega arith;
          }
      by false e =
          let b = s.begins in
          let w = s.within in
          record {
            few = s.few;
            rises = rises_wider low (lv.end + n) (omega arith) (omega arith) s.rises;
            begins = omega arith;
            within =
                omega arith;
          }

  -- the glyphs before the record's position are still there
  pub shrunk_sound : (n : ℕ) → get_or lv.positions i 0 ≤ old - n → Sound low (old - n) (shrunk_by i n lv)
  unfolding shrunk_by
  shrunk_sound n k =
      let a = place.0 in
      let b = place.1 in
      let w = s.within in
      let f = s.few in
      record {
        few = omega (arith, length-lost i (held_back i n lv) lv.positions h (omega arith));
        rises = lost_rises i (held_back i n lv) (lv.end - raised_to i n lv) h (omega arith)
            (all_went (raised_to i n lv) (length lv.positions) i lv.end) s.rises;
        begins = omega arith;
        within = omega arith;
      }

  pub repaired_sound : (new : ℕ) → get_or lv.positions i 0 ≤ new → Sound low new (repaired i old new lv)
  unfolding repaired
  repaired_sound new k = up (ltb old new) refl
    where
      down : (c : Bool) → ltb new old ≡ c → new ≤ old → Sound low new (cond c (shrunk_by i (old - new) lv) lv)
      down true e le =
          let l = ltb-true new old e in
          let q : old - (old - new) ≡ new = omega arith in
          rw q at (shrunk_sound (old - new) (rw q k))
      down false e le =
          let l = ltb-false new old e in
          let q : old ≡ new = omega arith in
          record { few = s.few; rises = s.rises; begins = s.begins; within = omega (arith, s.within) }

      up : (c : Bool) → ltb old new ≡ c → Sound low new (cond c (grown_by i (new - old) lv) (cond (ltb new old) (shrunk_by i (old - new) lv) lv))
      up true e =
          let l = ltb-true old new e in
          let q : old + (new - old) ≡ new = omega arith in
          rw q at (grown_sound (new - old))
      up false e = down (ltb new old) refl (ltb-false old new e)

pub repaired_mends : Mends repaired
repaired_mends low old lv s i h new k = repaired_sound s i h new k
