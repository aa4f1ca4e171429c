-- Every card in one check: the definitions give what the paper says. And every example beside them in another
-- (01, "Bench cards": "by one check over one list").
use Rattle.std.specs.Prelude.{List, map, ◌≡◌, refl, ℕ}
use Rattle.bits.specs.Bits.{every, some}
use Rattle.digest.specs.Digest.{ranged}
use Rattle.glyph.specs.Glyph.{words_of, blank, limit, glyphs, glyphs_of, ill_shaped}
use Rattle.glyph.specs.Sets.{in_set}
use Rattle.verdict.specs.Matcher.{input_matcher, context_matcher, matcher_of}
use Rattle.verdict.specs.Verdict.{skip_yes, ignorable, skip_of, ruled_out, match_of, verdict}
use Rattle.walk.specs.Walk.{walk, walk_from, walk_back}
use Rattle.matching.specs.Take.{takes, reached}
use Rattle.ligature.specs.Ligature.{may_join, base_before, base_skips}
use Rattle.matching.specs.Matchers.{input_by, input_on, ahead_on, back_on}
use Rattle.matching.specs.Answers.{ligated}
use Rattle.matching_refuse.specs.Fit.{bad_text, input_fit}
use Rattle.matching_calls.specs.Calls.{input_of}
use Rattle.glyph.specs.Write.{with_id}
use Rattle.book.specs.Book.{records_of, counted, body_of, first_lookup_of, read_lookups, read_book, lookup_at}
use Rattle.book.specs.Encode.{pairs_of, encode, encode_all}
use Rattle.run.specs.Repair.{following, with_gain, with_loss, grown_by, shrunk_by, repaired}
use Rattle.run.specs.Run.{tried_by, records_by, closed, chain_run}
use Rattle.run.specs.Chain.{chain_match}
use Rattle.run.specs.Deeds.{deed_by}
use Rattle.run_refuse.specs.Refuse.{checked_first, rises_to}
use Rattle.run_calls.specs.Calls.{checked_all}
use Rattle.cards.specs.Card.{Card}
use Rattle.cards.specs.Sums.{masks_of, bits_below}
use Rattle.cards.specs.Cards.{cards}
use Rattle.cards.specs.Examples.{examples}

abbrev pub given : Card → List (List ℕ)
given c = c.given

abbrev pub wanted : Card → List (List ℕ)
wanted c = c.wanted

pub all_cards : map given cards ≡ map wanted cards
unfolding every some ranged masks_of bits_below words_of blank in_set input_matcher context_matcher matcher_of skip_yes ignorable skip_of ruled_out
    match_of verdict walk walk_from takes reached may_join base_before base_skips input_by input_on ligated limit glyphs glyphs_of ill_shaped bad_text
    input_fit input_of with_id records_of counted body_of first_lookup_of read_lookups read_book lookup_at following with_gain with_loss grown_by
    shrunk_by repaired deed_by tried_by records_by closed chain_run checked_first checked_all rises_to
all_cards = refl

pub all_examples : map given examples ≡ map wanted examples
unfolding blank limit in_set input_matcher context_matcher matcher_of skip_yes ignorable skip_of ruled_out match_of verdict walk walk_from walk_back
    takes reached may_join base_before base_skips input_by input_on ahead_on back_on ligated with_id records_of counted body_of first_lookup_of
    read_lookups read_book lookup_at pairs_of encode encode_all following with_gain with_loss grown_by shrunk_by repaired chain_match deed_by tried_by
    records_by closed chain_run rises_to
all_examples = refl
