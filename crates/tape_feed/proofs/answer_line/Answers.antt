-- By what the line is decoded to. Assumes nothing.
use Rattle.std.proofs.Common.{refl, replicate, sym, ◌*◌, ◌∙◌}
use Rattle.glyph.specs.Glyph.{words}
use Rattle.tape_answer.specs.LineLaws.{number_fits}
use Rattle.tape_answer.specs.Answer.{answer_line}
use Rattle.tape_frame.specs.DecodingLaws.{none_told, frame_told, told_bounded}
use Rattle.tape_answer.specs.AnswerLaws.{told_answer}
use Rattle.tape_frame.specs.declared.Lists.{Lists}
use Rattle.tape_frame.specs.Frame.{most_values, most_glyphs, frame_of}
use Rattle.tape_feed.proofs.answer_line.Goals as goal

pub ask-requires : goal.ask-requires
ask-requires c =
    let line = c.args.line.now in
    told_bounded line c.in-Some.h (frame_told (frame_of line) c.in-Some.h (sym c.in-Some.is ∙ c.decode.ensures.answers))

pub returns-in-None : goal.returns-in-None
unfolding answer_line
returns-in-None c =
    let p = c.put_number.ensures in record {
      puts = rw (none_told (frame_of c.args.line.now) (sym c.in-None.is ∙ c.decode.ensures.answers)) p;
      upper_bound = number_fits _ _ _ p.ends;
    }

pub returns-in-Some-clause-puts : goal.returns-in-Some-clause-puts
returns-in-Some-clause-puts c =
    let line = c.args.line.now in
    let d = c.decode in
    let h = c.in-Some.h in
    let t = frame_told (frame_of line) h (sym c.in-Some.is ∙ d.ensures.answers) in
    let blank : Lists = record {
      values = replicate most_values 0;
      done = replicate (words * most_glyphs) 0;
      coming = replicate (words * most_glyphs) 0;
    } in
    rw (← told_answer line h t d.result blank d.new.lists d.ensures refl refl refl, ← c.ask.ensures) c.put_answer.ensures.puts
