-- The list keeps its length, and no more is written than has room.
use Rattle.std.proofs.Common.{rules}
use Rattle.text_repeats.proofs.Laws.{place_word}
use Rattle.text_repeats.proofs.write_places.Goals as goal

pub overflow_cast-place : goal.overflow_cast-place
overflow_cast-place c = search (rules, place_word)
