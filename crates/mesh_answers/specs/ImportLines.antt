-- The answer of an import, as numbers (FORMAT 6.2) and as the line that `import` says of a refusal (FORMAT 8.4).
use Rattle.std.specs.Prelude.{ℕ, List, [], ◌++◌, Result, Ok, Err}
use Rattle.answers.specs.Values.{answer}
use Rattle.answers.specs.declared.Answer.{Answer}
use Rattle.errors.specs.declared.CallError.{CallError}
use Rattle.errors.specs.declared.CallError.TheVariants.{Refused, Unread}
use Rattle.mesh.specs.Mesh.{fault_number, import_reply}
use Rattle.mesh.specs.declared.LineFault.{LineFault}
use Rattle.mesh.specs.declared.MeshError.{MeshError}
use Rattle.mesh.specs.declared.MeshError.TheVariants.{Line, NoSpace}
use Rattle.output.specs.Text.{ascii, field, refusal_line}

abbrev pub import_values : Result ℕ (CallError MeshError) → Answer
import_values a = answer (import_reply a)

unfoldable pub line_refusal : LineFault → ℕ → List ℕ
line_refusal f n = field "refused " (fault_number f) ++ field " line " n ++ ascii "\n"

abbrev pub import_line : Result ℕ (CallError MeshError) → List ℕ
import_line (Ok n) = []
import_line (Err (Unread f)) = refusal_line f
import_line (Err (Refused (Line f n))) = line_refusal f n
import_line (Err (Refused (NoSpace n))) = ascii "refused 17\n"
