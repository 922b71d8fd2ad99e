-- The code's rows beside the paper's: the same but that a key is named.
use Rattle.std.specs.Prelude.{ℕ, List, Bool}
use Rattle.paper.specs.declared.Value.{Value}
use Rattle.paper.specs.Common.{bytes}
use Rattle.paper.specs.Listing as paper
use Rattle.text_keys.specs.declared.rows.Key.{Key}
use Rattle.text_keys.specs.declared.rows.Key.TheVariants.{Nothing, ObjectMap, Name, Objects, SubjectMap, Subjects, Privileges, Principal, Subject, ExecutionContext}
use Rattle.text_keys.specs.declared.rows.Key.TheVariants.{CallContext, Uid, Gid, Namespace, CanCall, CanReturn, CanRead, ItemObjects, ObjectContext, CanWrite}
use Rattle.text_keys.specs.declared.rows.Row.{Row}

-- the text of a key, with its column, its dash and its colon
abbrev pub key_text : Key → List ℕ
key_text Nothing = bytes ""
key_text ObjectMap = bytes "object_map:"
key_text Name = bytes "- name:"
key_text Objects = bytes "  objects:"
key_text SubjectMap = bytes "subject_map:"
key_text Subjects = bytes "  subjects:"
key_text Privileges = bytes "privileges:"
key_text Principal = bytes "- principal:"
key_text Subject = bytes "    subject:"
key_text ExecutionContext = bytes "    execution_context:"
key_text CallContext = bytes "      call_context:"
key_text Uid = bytes "      uid:"
key_text Gid = bytes "      gid:"
key_text Namespace = bytes "      namespace:"
key_text CanCall = bytes "  can_call:"
key_text CanReturn = bytes "  can_return:"
key_text CanRead = bytes "  can_read:"
key_text ItemObjects = bytes "  - objects:"
key_text ObjectContext = bytes "    object_context:"
key_text CanWrite = bytes "  can_write:"

-- the longest key is `    execution_context:`
abbrev pub most_key : ℕ
most_key = 22

-- what a row says, of the code and of the paper
pub record Said : Type 0 where
  pub key : List ℕ
  pub value : Value
  pub block : List ℕ
  pub next : List ℕ
  pub last : Bool

abbrev pub seen : Row → Said
seen r = record { key = key_text r.key; value = r.value; block = r.block.now; next = r.next.now; last = r.last }

abbrev pub told : paper.Row → Said
told r = record { key = bytes r.key; value = r.value; block = r.block; next = r.next; last = r.last }
