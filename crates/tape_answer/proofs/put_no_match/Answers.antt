-- Case by case, the bytes that the definition has. Assumes nothing.
use Rattle.std.proofs.Common.{Err, ap}
use Rattle.matching.specs.declared.NoMatch.{NoMatch}
use Rattle.matching.specs.Answers.{without}
use Rattle.tape_answer.specs.LineLaws.{number_fits, extent_fits}
use Rattle.tape_answer.specs.AnswerLaws.{reply_refused, reply_lost, reply_ligature}
use Rattle.tape_answer.proofs.put_no_match.Goals as goal

pub returns-in-Refused : goal.returns-in-Refused
returns-in-Refused c =
    let p = c.put_number.ensures in record {
      puts = rw (reply_refused (without c.args.no) _ (ap (λ (no : NoMatch). Err no) c.in-Refused.is), ← c.into.ensures) p;
      upper_bound = number_fits _ _ _ p.ends;
    }

pub returns-in-Lost : goal.returns-in-Lost
returns-in-Lost c =
    let p = c.put_extent.ensures in record {
      puts = rw (reply_lost (without c.args.no) _ (ap (λ (no : NoMatch). Err no) c.in-Lost.is)) p;
      upper_bound = extent_fits _ _ _ p.ends;
    }

pub returns-in-Ligature : goal.returns-in-Ligature
returns-in-Ligature c =
    let p = c.put_number-in-Ligature.ensures in record {
      puts = rw (reply_ligature (without c.args.no) (ap (λ (no : NoMatch). Err no) c.in-Ligature.is)) p;
      upper_bound = number_fits _ _ _ p.ends;
    }
