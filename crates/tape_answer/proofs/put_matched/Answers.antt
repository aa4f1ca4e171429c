-- Each part after the one before it. Assumes nothing.
use Rattle.std.proofs.Common.{[], arith, length, length-append, refl, take, take_all, ◌*◌, ◌++◌, ◌+◌, ◌∷◌, ◌≡◌}
use Rattle.tape_frame.specs.Line.{digits_of, half}
use Rattle.tape_answer.specs.Line.{newline, halves, matched_bytes, with_newline}
use Rattle.tape_answer.specs.LineLaws.{length-halves}
use Rattle.tape_frame.specs.Put.{put_then}
use Rattle.tape_answer.proofs.put_matched.Goals as goal

pub returns : goal.returns
unfolding digits_of with_newline
returns c =
    let a = c.args in
    let h = c.requires in
    let o = a.out.now in
    let ps = a.positions.now in
    let n = length ps in
    let two =
    put_then o a.at (a.at + 2) (digits_of (0 ∷ [])) (digits_of (half a.found.end))
    c.put_byte.ensures refl c.put_half.ensures (omega (arith, h.1)) in
    let three =
    put_then o a.at (a.at + 6) (digits_of (0 ∷ half a.found.end)) (digits_of (half a.found.total))
    two refl c.put_half-2.ensures (omega (arith, h.1)) in
    let four =
    put_then o a.at (a.at + 10) (digits_of (0 ∷ half a.found.end ++ half a.found.total)) (digits_of (n ∷ []))
    three refl c.put_byte-2.ensures (omega (arith, h.1)) in
    let five =
    put_then o a.at (a.at + 12) (digits_of (0 ∷ half a.found.end ++ half a.found.total ++ (n ∷ []))) (digits_of (halves ps))
    four refl c.put_positions.ensures (omega (arith, h.1)) in
    let all : take n ps ≡ ps = take_all n ps (omega arith) in
    let size : length (digits_of (halves ps)) ≡ 4 * n = rw all at (length-halves ps n (omega arith)) in record {
      puts = record {
        stored =
            put_then o a.at (a.at + 12 + 4 * n) (digits_of (0 ∷ matched_bytes (a.found.end ∷ a.found.total ∷ n ∷ ps))) (newline ∷ [])
            five (omega (arith, size)) c.put_newline.ensures.stored (omega (arith, size, h.0, h.1));
        ends = omega (arith, c.put_newline.ensures.ends, size, length-append (digits_of (halves ps)) (newline ∷ []));
      };
      upper_bound = omega (arith, c.put_newline.ensures.ends, h.0);
    }
