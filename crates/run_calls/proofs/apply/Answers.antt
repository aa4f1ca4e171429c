-- A match that isn't refused opens a sound level. Assumes nothing.
use Rattle.std.proofs.Common.{arith, sym, ◌∙◌}
use Rattle.run_cycle.specs.Cycle.{level_neat}
use Rattle.run_calls.specs.CallLaws.{places_show, level_sound, first_sound}
use Rattle.run_calls.proofs.apply.Goals as goal

pub go-requires : goal.go-requires
go-requires c =
    let a = c.args in
    let m = c.open-m in
    let good = places_show a.place.idx _ a.matched.count a.matched.positions (sym c.is_level.ensures ∙ c.if-not-is_level.false) in (
      c.requires.0,
      c.requires.2,
      level_neat m.result _ m.ensures,
      level_sound _ m.result _ m.ensures
          (first_sound a.done.now a.coming.now a.place c.requires.0 _ a.matched.count a.matched.positions (omega arith) good),
    )
