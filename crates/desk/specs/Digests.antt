-- For C, a layout of our own: a digest as it is lent: three masks in a row, the one at shift 4 first, then 0, then 6.
use Rattle.std.specs.Prelude.{List, ℕ}
use Rattle.digest.specs.declared.SetDigest.{SetDigest}
use Rattle.rule_digest.specs.declared.RuleSetDigest.{RuleSetDigest}

abbrev pub digest_of : List ℕ → SetDigest
digest_of masks = record { masks = masks }

abbrev pub rule_of : ℕ → RuleSetDigest
rule_of mask = record { mask = mask }
