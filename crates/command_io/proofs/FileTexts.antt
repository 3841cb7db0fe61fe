-- What the bytes that were read say of their file.
use Rattle.std.proofs.Common.{◌≡◌, ◌≤◌, ℕ, List, Option, Some, subst, length}
use Rattle.std.specs.Prelude.{IfSome}
use Rattle.source_trait.specs.Outside.{bytes_of}
use Rattle.command_io.specs.Inputs.{Contents, without_mark, IsText}

pub is_text : (told : Option Contents) (name bytes text : List ℕ) (limit : ℕ) (P : List ℕ → Type 0) → length bytes ≤ limit →
    IfSome told (λ files. bytes_of files name ≡ Some bytes) → text ≡ without_mark bytes → P text → IsText told name limit P
is_text told name bytes text limit P within read same holds = record { bytes = bytes; within = within; holds = subst P same holds; of_file = read }
