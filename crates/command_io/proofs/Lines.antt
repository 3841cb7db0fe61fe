-- What is taken of a text whole is a first part of it, and how the line for a lack of memory tells a stop.
use Rattle.std.proofs.Common.{◌≡◌, ℕ, List, [], ◌∷◌, ◌++◌, length, take, Option, option_map, refl, ap, ◌∙◌, inl, inr, arith}
use Rattle.command_io.specs.declared.stop.Stop.{Stop}
use Rattle.command_io.specs.declared.stop.Stop.TheVariants as stop
use Rattle.command_io.specs.Writing.{TookAll, TookPrefix, TookPart}
use Rattle.command_io.specs.FaultLines.{Names, memory_line, fault_line}
use Rattle.command_io.specs.Telling.{TookLine, Said, Tells}

pub all_prefix : (old new : Option (List ℕ)) (text : List ℕ) → TookAll old new text → TookPrefix old new text
all_prefix old new text all = (length text, omega arith, all ∙ whole old)
  where
    taken_all : (xs : List ℕ) → xs ≡ take (length xs) xs
    taken_all [] = refl
    taken_all (x ∷ xs) = ap (λ (l : List ℕ). x ∷ l) (taken_all xs)

    whole : (o : Option (List ℕ)) → option_map (λ bytes. bytes ++ text) o ≡ option_map (λ bytes. bytes ++ take (length text) text) o
    whole o = ap (λ (t : List ℕ). option_map (λ bytes. bytes ++ t) o) (taken_all text)

pub part_prefix : (old new : Option (List ℕ)) (text : List ℕ) → TookPart old new text → TookPrefix old new text
part_prefix old new text (n, few, took) = (n, omega (arith, few), took)

pub line_prefix : (old new : Option (List ℕ)) (rose : Type 0) (text : List ℕ) → TookLine old new rose text → TookPrefix old new text
line_prefix old new rose text (inl all) = all_prefix old new text all
line_prefix old new rose text (inr part) = part_prefix old new text part.1

pub memory_tells : (old new : Option (List ℕ)) (rose : Type 0) (names : Names) (given result : Stop) →
    Said old new rose memory_line stop.Memory result → Tells old new rose names given result
memory_tells old new rose names given result (inl told) = inr (told.0, inr (line_prefix old new rose memory_line told.1))
memory_tells old new rose names given result (inr begun) = inr (begun.0, inr (part_prefix old new memory_line begun.1))

pub said_tells : (old new : Option (List ℕ)) (rose : Type 0) (names : Names) (given result : Stop) →
    Said old new rose (fault_line names given) given result → Tells old new rose names given result
said_tells old new rose names given result (inl told) = inl told
said_tells old new rose names given result (inr begun) = inr (begun.0, inl begun.1)
