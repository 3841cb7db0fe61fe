-- The texts of the world of a size: eight relations of the generator in a chain, and the query that goes through all of them.
use Rattle.std.specs.Prelude.{◌++◌, ℕ, List, codes, flat_map}
use Rattle.std.specs.Fmt.{decimal}
use Rattle.std.specs.List.{range_with_len}
use Rattle.world_source.specs.Formulas.{locator}

abbrev pub relation_lines : List ℕ
relation_lines = codes "relation c1(a, b)\nrelation c2(a, b)\nrelation c3(a, b)\nrelation c4(a, b)\nrelation c5(a, b)\nrelation c6(a, b)\nrelation c7(a, b)\nrelation c8(a, b)\n"

-- the first relation is read whole, and each other one by its first column
abbrev pub method_lines : List ℕ
method_lines =
    codes "method m1 on c1() cost 1\nmethod m2 on c2(a) cost 1\nmethod m3 on c3(a) cost 1\nmethod m4 on c4(a) cost 1\n"
    ++ codes "method m5 on c5(a) cost 1\nmethod m6 on c6(a) cost 1\nmethod m7 on c7(a) cost 1\nmethod m8 on c8(a) cost 1\n"

-- where one relation leads, the next one leads on
abbrev pub rule_lines : List ℕ
rule_lines =
    codes "rule c1(x, y) -> c2(y, z)\nrule c2(x, y) -> c3(y, z)\nrule c3(x, y) -> c4(y, z)\nrule c4(x, y) -> c5(y, z)\n"
    ++ codes "rule c5(x, y) -> c6(y, z)\nrule c6(x, y) -> c7(y, z)\nrule c7(x, y) -> c8(y, z)\n"

abbrev pub source_line : ℕ → ℕ → List ℕ
source_line n k = codes "source c" ++ decimal k ++ codes " world '" ++ locator k n ++ codes "'\n"

abbrev pub source_lines : ℕ → List ℕ
source_lines n = flat_map (source_line n) (range_with_len 1 8)

abbrev pub schema_text : ℕ → List ℕ
schema_text n = relation_lines ++ method_lines ++ rule_lines ++ source_lines n

abbrev pub query_text : List ℕ
query_text =
    codes "SELECT DISTINCT t1.a, t8.b FROM c1 t1, c2 t2, c3 t3, c4 t4, c5 t5, c6 t6, c7 t7, c8 t8 "
    ++ codes "WHERE t1.b = t2.a AND t2.b = t3.a AND t3.b = t4.a AND t4.b = t5.a AND t5.b = t6.a AND t6.b = t7.a AND t7.b = t8.a"
