use Rattle.std.proofs.Common.{◌≡◌, length, map, take}
use Rattle.dp_writer.specs.Numbering.{Defines, literals_by}
use Rattle.dp_writer.specs.Written.{named}
use Rattle.dp_writer.proofs.numbering.literals.Given as goal

abbrev pub invariant-loop-atom : goal.invariant-loop-atom
invariant-loop-atom l = record {
  kept : take (length l.fn.atoms.keys) l.atoms.keys ≡ l.fn.atoms.keys;
  literals : l.literals.items ≡ literals_by l.fn.atoms.keys (map (named l.problem) (take l.atom-index l.used));
  defines : Defines (map (named l.problem) (take l.atom-index l.used)) l.fn.atoms.keys l.atoms.keys l.fn.text.items l.text.items;
}
