-- For C, a layout of our own: what the matchers answer as numbers: number and values of each answer, as the room's replies have them.
use Rattle.std.specs.Prelude.{List, ℕ, Result, get_or}
use Rattle.matching.specs.declared.Terms.{Terms}
use Rattle.matching.specs.declared.InputMatch.{InputMatch}
use Rattle.matching.specs.declared.NoContext.{NoContext}
use Rattle.matching.specs.Answers.{input_reply, context_reply}
use Rattle.desk.specs.declared.walks.Lookup.{Lookup}
use Rattle.desk.specs.declared.matches.Matched.{Matched}
use Rattle.desk.specs.declared.matches.Placed.{Placed}
use Rattle.desk.specs.Walks.{settings_for}

abbrev pub terms_for : Lookup → Terms
terms_for l = record { settings = settings_for l; mask = l.mask; props = l.props }

abbrev pub matched_with : ℕ → ℕ → ℕ → ℕ → List ℕ → Matched
matched_with number end total count positions =
    record { number = number; total = total; end = end; count = count; positions = positions }

-- a success's end and total, or the extent; 0 where there is none
abbrev pub matched_of : InputMatch → Matched
matched_of m = let a = input_reply m in
    matched_with a.number (get_or a.values 0 0) (get_or a.values 1 0) m.count m.positions

abbrev pub placed_of : Result ℕ NoContext → Placed
placed_of c = let a = context_reply c in record { number = a.number; place = get_or a.values 0 0 }
