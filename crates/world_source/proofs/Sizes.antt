-- The texts of a world are short.
use Rattle.std.proofs.Common.{◌++◌, ◌+◌, ◌*◌, ◌≤◌, ℕ, zero, suc, length, length-append, arith}
use Rattle.std.specs.List.{range_with_len}
use Rattle.std.specs.Prelude.{flat_map}
use Rattle.std.proofs.lemmas.Fmt.{length-decimal-le}
use Rattle.world_source.specs.Texts.{method_lines, relation_lines, rule_lines, schema_text, source_line, source_lines}

line_short : (n k : ℕ) → n ≤ 10000 → k ≤ 10000 → length (source_line n k) ≤ 40
line_short n k few low =
    let size = length-decimal-le 5 n (omega arith) (omega (arith, few)) (omega (arith, few)) in
    let place = length-decimal-le 5 k (omega arith) (omega (arith, low)) (omega (arith, low)) in
    simp length-append (omega (arith, size, place))

lines_short : (n a m : ℕ) → n ≤ 10000 → a + m ≤ 10000 → length (flat_map (source_line n) (range_with_len a m)) ≤ m * 40
lines_short n a zero few low = omega arith
lines_short n a (suc m) few low =
    let first = line_short n a few (omega (arith, low)) in
    let rest = lines_short n (a + 1) m few (omega (arith, low)) in
    let all = length-append (source_line n a) (flat_map (source_line n) (range_with_len (a + 1) m)) in
    omega (arith, first, rest, all)

pub schema_short : (n : ℕ) → n ≤ 10000 → length (schema_text n) ≤ 2000
schema_short n few =
    let lines = lines_short n 1 8 few (omega arith) in
    let first = length-append relation_lines method_lines in
    let second = length-append (relation_lines ++ method_lines) rule_lines in
    let all = length-append ((relation_lines ++ method_lines) ++ rule_lines) (source_lines n) in
    omega (arith, lines, first, second, all)
