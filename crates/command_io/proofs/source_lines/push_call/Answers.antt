-- Each part is written behind those before it.
use Rattle.std.specs.Prelude.{◌+◌, ◌++◌, codes}
use Rattle.std.specs.Fmt.{decimal}
use Rattle.lists.proofs.Members.{joined_twice}
use Rattle.command_io.proofs.source_lines.push_call.Goals as goal

pub returns : goal.returns
returns c =
    let old = c.args.line.now.items in
    let first = codes "call failed in branch " in
    let branch = decimal (c.args.branch + 1) in
    let step = decimal (c.args.step + 1) in
    let one = joined_twice old c.extend_from_slice.new.self.items c.print_number.new.out.items first branch
    c.in_ok-extend_from_slice.ensures.items c.in_ok-print_number.ensures in
    let two = joined_twice old c.print_number.new.out.items c.extend_from_slice-2.new.self.items (first ++ branch) (codes " step ")
    one c.in_ok-extend_from_slice-2.ensures.items in
    let three = joined_twice old c.extend_from_slice-2.new.self.items c.print_number-2.new.out.items ((first ++ branch) ++ codes " step ") step
    two c.in_ok-print_number-2.ensures in
    joined_twice old c.print_number-2.new.out.items c.extend_from_slice-3.new.self.items (((first ++ branch) ++ codes " step ") ++ step)
    (codes "\n") three c.in_ok-extend_from_slice-3.ensures.items
