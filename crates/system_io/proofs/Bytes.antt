-- Bytes that a writer holds, where they are known always or never.
use Rattle.std.proofs.Common.{◌≡◌, ℕ, List, ◌++◌, take, Option, None, Some, refl, ap, ◌∙◌}
use Rattle.std.specs.Prelude.{option_map}
use Rattle.std.specs.Option.{is_some}
use Rattle.std.specs.Io.KnownBytes.{Keeps, Appends}
use Rattle.std.proofs.lemmas.List.{append-nil}

pub appended : (old new : Option (List ℕ)) (more : List ℕ) → is_some old ≡ is_some new → Appends old new more → new ≡ option_map (λ bytes. bytes ++ more) old
appended None None more same is = refl
appended None (Some bytes) more same is = absurd (cc)
appended (Some bytes) None more same is = absurd (cc)
appended (Some bytes) (Some after) more same is = ap (λ (l : List ℕ). Some l) is

pub kept : (old new : Option (List ℕ)) → is_some old ≡ is_some new → Keeps old new → new ≡ old
kept None None same is = refl
kept None (Some bytes) same is = absurd (cc)
kept (Some bytes) None same is = absurd (cc)
kept (Some bytes) (Some after) same is = ap (λ (l : List ℕ). Some l) is

-- no byte was appended
pub none_appended : (old new : Option (List ℕ)) (n : ℕ) (piece : List ℕ) → n ≡ 0 → is_some old ≡ is_some new → Appends old new (take n piece) → new ≡ old
none_appended None None n piece none same is = refl
none_appended None (Some bytes) n piece none same is = absurd (cc)
none_appended (Some bytes) None n piece none same is = absurd (cc)
none_appended (Some bytes) (Some after) n piece none same is = ap (λ (l : List ℕ). Some l) (is ∙ ap (λ k. bytes ++ take k piece) none ∙ append-nil bytes)
