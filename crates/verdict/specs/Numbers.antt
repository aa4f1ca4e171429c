-- The numbers by which a table and a test are asked for where there are no enums: our choice, 01 gives them none.
use Rattle.std.specs.Prelude.{Bool, cond, ℕ, eqb}
use Rattle.verdict.specs.declared.Table.{Table}
use Rattle.verdict.specs.declared.Table.TheVariants.{Gsub, Gpos}
use Rattle.verdict.specs.declared.Test.{Test}
use Rattle.verdict.specs.declared.Test.TheVariants.{Equal, Any, Nothing}

abbrev pub table_of : Bool → Table
table_of gpos = cond gpos Gpos Gsub

-- 0 equal, 1 any, any other number no test
abbrev pub test_of : ℕ → Test
test_of n = cond (eqb n 0) Equal (cond (eqb n 1) Any Nothing)
