-- The keys of a context that has none of them: each with what it means where it is omitted.
use Rattle.std.specs.Prelude.{ℕ, List, [], ◌∷◌, ◌++◌}
use Rattle.paper.specs.Common.{bytes}
use Rattle.paper.specs.Text.{line_feed}

-- their lines, as the code has them
abbrev pub omitted_bytes : List ℕ
omitted_bytes =
    bytes "      call_context: [all]"
    ++ (line_feed ∷ (bytes "      uid: all" ++ (line_feed ∷ (bytes "      gid: all" ++ (line_feed ∷ (bytes "      namespace: all" ++ (line_feed ∷ [])))))))

-- their lines
unfoldable pub omitted_keys : List ℕ
omitted_keys = omitted_bytes

-- how long they are
abbrev pub omitted_size : ℕ
omitted_size = 77
