-- The rules that are left once some have named no line.
use Rattle.std.specs.Prelude.{List}
use Rattle.paper.specs.Page.{Field, Outcome, fields}
use Rattle.paper.specs.Rules.{unless_line, unknown_name, unbound_variable, twin_principal}

-- 10, then 11, "each over the whole file"
unfoldable pub known_ruled : List Field → Outcome
known_ruled fs = unless_line 10 (unbound_variable fs) (unless_line 11 (twin_principal fs) (fields fs))

-- 8 before them
unfoldable pub names_ruled : List Field → Outcome
names_ruled fs = unless_line 8 (unknown_name fs) (known_ruled fs)
