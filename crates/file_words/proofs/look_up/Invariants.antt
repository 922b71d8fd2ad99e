-- The loop: the words of the fields so far stand in front, and where each starts.
use Rattle.std.proofs.Common.{◌≡◌, length}
use Rattle.file_words.specs.Words.{numbers_from, words_to, Worded}
use Rattle.file_words.proofs.look_up.Given as goal

abbrev pub invariant-loop-i : goal.invariant-loop-i
invariant-loop-i l = (l.field-items ≡ l.file.fields.now) × (length l.words ≡ length l.initial.words) × (length l.starts ≡ length l.initial.starts)
    × (l.w ≡ length (words_to (numbers_from l.file.text.now l.maps) l.file.text.now l.file.fields.now l.i))
    × Worded (numbers_from l.file.text.now l.maps) l.file.text.now l.file.fields.now l.i l.words l.starts
