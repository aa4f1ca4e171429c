-- The first mask is asked by itself, the other two together. Assumes nothing.
use Rattle.std.proofs.Common.{◌≡◌, ℕ, ◌/◌, ◌%◌, ◌^◌, Bool, true, ◌&&◌, List, get_or, sym, ap, ◌∙◌, arith}
use Rattle.bits.specs.Bits.{bit, every}
use Rattle.bits.proofs.Laws.{every_not}
use Rattle.digest.specs.Digest.{shift, place}
use Rattle.digest.proofs.SetDigest.may_have.Goals as goal

-- mask i has the glyph's bit
abbrev is_set : List ℕ → ℕ → ℕ → Bool
is_set masks g i = bit (place i g) (get_or masks i 0)

-- what is answered of the glyph at the shift of mask i
asked : (masks : List ℕ) (g i n : ℕ) (b : Bool) → b ≡ bit (n % 64) (get_or masks i 0) → n ≡ g / 2 ^ shift i → b ≡ is_set masks g i
asked masks g i n b e f = e ∙ ap (λ (m : ℕ). bit (m % 64) (get_or masks i 0)) f

-- where the first mask has it, the other two decide
others_decide : (p : ℕ → Bool) (b c : Bool) → p 0 ≡ true → b ≡ p 1 → c ≡ p 2 → (b && c) ≡ every 3 p
unfolding every
others_decide p b c e f g = rw (e, f, g)

pub returns-then-not-has : goal.returns-then-not-has
returns-then-not-has c = let a = c.args in
    let first = asked a.self.masks a.g 0 _ _ c.has.ensures c.shifted.ensures in
    sym (every_not (is_set a.self.masks a.g) 3 0 (omega arith) (sym first ∙ c.if-not-has.true))

pub returns : goal.returns
returns c =
    let a = c.args in
    let ask = asked a.self.masks a.g in
    others_decide (is_set a.self.masks a.g) _ _
    (sym (ask 0 _ _ c.has.ensures c.shifted.ensures) ∙ c.if-not-has.false)
    (ask 1 _ _ c.has-2.ensures c.shifted-2.ensures)
    (ask 2 _ _ c.has-3.ensures c.shifted-3.ensures)
