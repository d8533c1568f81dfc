-- A line with more bytes than a line may have.
use Rattle.std.specs.Prelude.{ℕ, nat_lt, if◌then◌else◌}
use Rattle.dp_lines.specs.declared.refusal.Limits.{Limits}
use Rattle.dp_lines.specs.declared.refusal.LineRefusal.{LineRefusal}
use Rattle.dp_lines.specs.declared.refusal.LineRefusal.TheVariants.{TooLong, LogTooLong}

-- the refusal of line `number` by its length alone, where its last byte is the byte `end` of the log
abbrev pub over : Limits → ℕ → ℕ → LineRefusal
over limits number end = if nat_lt limits.total end then LogTooLong number else TooLong number
