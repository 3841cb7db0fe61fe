use Rattle.data_verify.proofs.Written.{four_pieces}
use Rattle.data_verify.proofs.text.push_broken.Goals as goal

pub returns : goal.returns
returns c = four_pieces c.args.out.now.items _ _ _ _ _ _ _ _ c.in_ok-extend_from_slice.ensures.items (rw c.line_at.ensures at c.in_ok-print_number.ensures) c.in_ok-extend_from_slice-2.ensures.items
    (rw c.as_slice.ensures at (rw c.as_slice-2.ensures at c.in_ok-push_facts.ensures))
