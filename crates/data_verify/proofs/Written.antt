-- Pieces that are written one after another.
use Rattle.std.proofs.Common.{◌≡◌, ℕ, List, ◌++◌}
use Rattle.lists.proofs.Members.{joined_twice}

pub four_pieces : (out first second third last p q r s : List ℕ) → first ≡ out ++ p → second ≡ first ++ q → third ≡ second ++ r → last ≡ third ++ s → last ≡ out ++ (((p ++ q) ++ r) ++ s)
four_pieces out first second third last p q r s e f g h =
    joined_twice out third last ((p ++ q) ++ r) s (joined_twice out second third (p ++ q) r (joined_twice out first second p q e f) g) h
