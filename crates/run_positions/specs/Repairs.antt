-- What growing, shrinking and repairing make of slots, as levels.
use Rattle.std.specs.Prelude.{◌≡◌, true, false, List, map, take}
use Rattle.std.proofs.Common.{sym, ◌∙◌, arith}
use Rattle.std.proofs.Math.Path.{ap}
use Prim.Native.Nat.{ℕ, suc, ◌+◌, ◌-◌, ◌≤◌, ◌<◌, min}
use borrow.Author.Tests.{le-leb, lt-leb, lt-ltb, le-ltb}
use Rattle.std.proofs.Math.ListN.{length, get_or}
use Rattle.std.proofs.Math.Seq.{get_or-take}
use Rattle.matching.specs.Take.{slots}
use Rattle.matching.specs.Answers.{slotted}
use Rattle.run.specs.Repair.{with_gain, with_loss, grown_by, shrunk_by, raised_to, held_back, repaired, Sound}
use Rattle.run.specs.Rises.{length_gained, length-lost, rises_at}
use Rattle.run_positions.specs.declared.Slots.{Slots}
use Rattle.run_positions.specs.Slots.{level_of, shown, Neat, Placed}
use Rattle.run_positions.specs.Laws.{size_is, count_is}
use Rattle.run.specs.Run.{from_done, moved_level}

module _ (s : Slots) (i n : ℕ) (p : Placed s.at s.count) (h : i < s.count) where
  sized : length (take s.count s.at) ≡ s.count
  sized = size_is s.at s.count i n p h

  pub grown_fits : s.count + n ≤ slots
      → ◌≡◌ {A = Slots} (record { live = s.live; end = s.end + n; count = s.count + n; at = slotted (with_gain i n (take s.count s.at)) })
      (shown (grown_by i n (level_of s)))
  unfolding grown_by
  grown_fits l =
      let e : s.count + n ≡ length (with_gain i n (take s.count s.at)) =
      omega (arith, sized, length_gained i n (take s.count s.at) (omega (arith, sized))) in
      rw (le-leb (length (take s.count s.at) + n) slots (omega (arith, sized)))
      (λ j. record { live = s.live; end = s.end + n; count = e j; at = slotted (with_gain i n (take s.count s.at)) })

  pub grown_stops : Neat s → slots < s.count + n
      → ◌≡◌ {A = Slots} (record { live = false; end = s.end + n; count = s.count; at = s.at }) (shown (grown_by i n (level_of s)))
  unfolding grown_by
  grown_stops neat l =
      rw (lt-leb (length (take s.count s.at) + n) slots (omega (arith, sized)))
      (λ j. record { live = false; end = s.end + n; count = (sym neat j).count; at = (sym neat j).at })

  after_own : s.count - (i + 1) ≡ length (take s.count s.at) - suc i
  after_own = omega (arith, sized)

  left_over : (gone : ℕ) → gone ≤ length (take s.count s.at) - suc i → s.count - gone ≡ length (with_loss i gone (take s.count s.at))
  left_over gone w = ap (λ (x : ℕ). x - gone) (sym sized) ∙ sym (length-lost i gone (take s.count s.at) (omega (arith, sized)) w)

  -- `back` and `gone` as the code finds them
  pub shrunk_is : (back gone : ℕ) → back ≡ min n (s.end - get_or s.at i 0) → gone ≡ min back (s.count - (i + 1))
      → ◌≡◌ {A = Slots} (record {
        live = s.live;
        end = s.end - back;
        count = s.count - gone;
        at =
            slotted (with_loss i gone (take s.count s.at));
      }) (shown (shrunk_by i n (level_of s)))
  unfolding shrunk_by
  shrunk_is back gone b g =
      let o : get_or (take s.count s.at) i 0 ≡ get_or s.at i 0 = get_or-take s.count s.at i 0 h in
      let b' : back ≡ raised_to i n (level_of s) = b ∙ ap (λ (x : ℕ). min n (s.end - x)) (sym o) in
      let c : s.count - (i + 1) ≡ length (take s.count s.at) - suc i = after_own in
      let g' : gone ≡ held_back i n (level_of s) = g ∙ ap (λ (x : ℕ). min x (s.count - (i + 1))) b'
      ∙ ap (λ (x : ℕ). min (raised_to i n (level_of s)) x) c in
      let w : gone ≤ length (take s.count s.at) - suc i = omega arith in
      let k : s.count - gone ≡ length (with_loss i gone (take s.count s.at)) = left_over gone w in
      (λ j. record { live = s.live; end = s.end - b' j; count = k j; at = slotted (with_loss i gone (take s.count s.at)) })
      ∙ ap (λ (x : ℕ). shown (record { live = s.live; positions = with_loss i x (take s.count s.at); end = s.end - raised_to i n (level_of s) }))
      g'

-- ---- an opening

pub opened_is : (idx d : ℕ) (places : List ℕ) (count end : ℕ) (out : List ℕ) → length (map (from_done idx d) (take count places)) ≡ count
    → out ≡ slotted (map (from_done idx d) (take count places))
    → ◌≡◌ {A = Slots} (record { live = true; end = d + (end - idx); count = count; at = out }) (shown (moved_level idx d (take count places) end))
opened_is idx d places count end out m e = λ j. record { live = true; end = d + (end - idx); count = sym m j; at = e j }

-- ---- repair, by its tests

module _ (s : Slots) (i old new : ℕ) where
  pub repair_up : old < new → shown (grown_by i (new - old) (level_of s)) ≡ shown (repaired i old new (level_of s))
  unfolding repaired
  repair_up h = rw (lt-ltb old new h)

  pub repair_down : new ≤ old → new < old → shown (shrunk_by i (old - new) (level_of s)) ≡ shown (repaired i old new (level_of s))
  unfolding repaired
  repair_down h l = rw (le-ltb old new h, lt-ltb new old l)

  pub repair_none : Neat s → new ≤ old → old ≤ new → s ≡ shown (repaired i old new (level_of s))
  unfolding repaired
  repair_none neat h l = rw (le-ltb old new h, le-ltb new old l) (sym neat)

module _ {size : ℕ} (s : Slots) (neat : Neat s) (o : Sound 0 size (level_of s)) (i : ℕ) (h : i < s.count) where
  -- the record's own position isn't past the end
  pub own_before : get_or s.at i 0 ≤ s.end
  own_before =
      let c = count_is s neat in
      let q = rises_at i (omega arith) o.rises in
      omega (arith, q.1, get_or-take s.count s.at i 0 h)
