-- What is generated: a model and its scaffold, and what stands in the two files.
use Rattle.std.specs.Prelude.{◌≡◌, ℕ, ◌+◌, ◌*◌, List, string_bytes}
use Rattle.dp_desk.specs.Channel.{Grows}
use Rattle.dp_desk.specs.Sight.{Sight}
use Rattle.dp_gen.specs.Family.{model_text, scaffold_text}
use Rattle.fz_solve.specs.Solved.{Holds}
use Rattle.dp_command.specs.Texts.{generated_line}
use Rattle.dp_command.specs.Words.{Gen, Spells}
use Rattle.dp_command.specs.declared.generate.Family.{Family}

-- the model with so many blocks and its scaffold are to be written under these names, and are counted
pub record IsFamily (n : ℕ) (model scaffold : List ℕ) (family : Family) : Type 0 where
  pub model_named : string_bytes family.model.name ≡ model
  pub model_text : family.model.text ≡ model_text n
  pub scaffold_named : string_bytes family.scaffold.name ≡ scaffold
  pub scaffold_text : family.scaffold.text ≡ scaffold_text n
  pub variables : family.variables ≡ 2 * n + 2
  pub constraints : family.constraints ≡ 2 * n + 2
  pub nogoods : family.nogoods ≡ n + 1

-- the words ask for the model with so many blocks and its scaffold, and these are they
pub record GeneratesFamily (words : List (List ℕ)) (family : Family) : Type 0 where
  pub n : ℕ
  pub model : List ℕ
  pub scaffold : List ℕ
  pub asked : Spells (Gen n model scaffold) words
  pub made : IsFamily n model scaffold family

-- The words ask for the model with so many blocks and its scaffold: the model stands in the first file and the scaffold in the
-- second, and their sizes were told.
pub record FilesFamily (words : List (List ℕ)) (was now : Sight) : Type 0 where
  pub n : ℕ
  pub model : List ℕ
  pub scaffold : List ℕ
  pub asked : Spells (Gen n model scaffold) words
  pub first : Holds now.first (model_text n)
  pub second : Holds now.second (scaffold_text n)
  pub told : Grows was.answer now.answer (generated_line (2 * n + 2) (2 * n + 2) (n + 1))
