-- How a sink goes on.
use Rattle.std.proofs.Common.{◌≡◌, ℕ, List, ◌++◌, Option, None, Some, option_map, sym, ◌∙◌, ap, append_assoc}

pub goes_on : (old mid new : Option (List ℕ)) (a b ab : List ℕ) → ab ≡ a ++ b → mid ≡ option_map (λ bytes. bytes ++ a) old → new ≡ option_map (λ bytes. bytes ++ b) mid → new ≡ option_map (λ bytes. bytes ++ ab) old
goes_on None mid new a b ab e m n = n ∙ ap (option_map (λ (bytes : List ℕ). bytes ++ b)) m
goes_on (Some x) mid new a b ab e m n = n ∙ ap (option_map (λ (bytes : List ℕ). bytes ++ b)) m ∙ ap Some (append_assoc x a b ∙ ap (λ (l : List ℕ). x ++ l) (sym e))
