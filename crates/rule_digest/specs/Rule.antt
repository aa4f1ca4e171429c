-- A digest of the values of a set of rules: one mask of 64 bits on the value mod 64. (01, port order 1; apply.rs, RuleSetDigest.)
use Rattle.std.specs.Prelude.{Bool, ◌||◌, ◌≡◌, ℕ, ◌%◌, ◌<◌, eqb}
use Rattle.bits.specs.Bits.{bit, every}
use Rattle.rule_digest.specs.declared.RuleSetDigest.{RuleSetDigest}

-- bit k of the mask is set, or not
abbrev pub rule_bits : RuleSetDigest → ℕ → Bool
rule_bits d k = bit k d.mask

-- the digest has these bits
abbrev pub RuleSays : RuleSetDigest → (ℕ → Bool) → Type 0
RuleSays d f = (k : ℕ) → k < 64 → rule_bits d k ≡ f k

-- the value's bit is set too
abbrev pub rule_added : ℕ → (ℕ → Bool) → ℕ → Bool
rule_added v f k = f k || eqb k (v % 64)

abbrev pub rule_full : (ℕ → Bool) → Bool
rule_full f = every 64 f

abbrev pub rule_may_have : (ℕ → Bool) → ℕ → Bool
rule_may_have f v = f (v % 64)
