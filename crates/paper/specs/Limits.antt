-- The limits (document 01, "The page" and "Numbers that come back").
use Rattle.std.specs.Prelude.{ℕ}

-- "Text is at most 65,536 bytes"
abbrev pub text_bytes : ℕ
text_bytes = 65536

-- "At most: 128 domains in each map, 1,024 objects, 1,024 subjects, 128 entries, 16 elements in a `call_context`, 256 access descriptors in the file."
abbrev pub most_domains : ℕ
most_domains = 128

-- "1,024 objects, 1,024 subjects"
abbrev pub most_members : ℕ
most_members = 1024

-- "128 entries"
abbrev pub most_entries : ℕ
most_entries = 128

-- "16 elements in a `call_context`"
abbrev pub most_elements : ℕ
most_elements = 16

-- "256 access descriptors in the file"
abbrev pub most_descriptors : ℕ
most_descriptors = 256

-- 1: "table under 16,384 words"
abbrev pub table_words : ℕ
table_words = 16384

-- 21 and 22: "over 64 frames"
abbrev pub most_frames : ℕ
most_frames = 64

-- 40: "under 30 words" (document 02 h)
abbrev pub witness_words : ℕ
witness_words = 30
