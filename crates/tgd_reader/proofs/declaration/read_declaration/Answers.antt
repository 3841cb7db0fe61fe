use Rattle.std.proofs.Common.{◌≡◌, ℕ, Bool, List, [], Option, None, Result, Ok, Err, subst}
use Rattle.std.specs.Prelude.{IfOk, IsErrOf}
use Rattle.pq_text.specs.declared.lexeme.Lexeme.{Lexeme}
use Rattle.pq_text.specs.declared.cursor.Misfit.{Misfit}
use Rattle.pq_text.specs.declared.cursor.Misfit.TheVariants.{NoMemory, NoFit}
use Rattle.pq_text.specs.Lexemes.{Gives}
use Rattle.access_schema.specs.declared.part.Part.{Part}
use Rattle.tgd_reader.specs.Reading.{declaration_at}
use Rattle.tgd_reader.specs.Grammar.{IsDeclaration}
use Rattle.tgd_reader.proofs.Declarations.{declaration_found, declaration_again}
use Rattle.tgd_reader.proofs.declaration.read_declaration.Goals as goal

is_found : (v : Bool) (n : ℕ) (r : Result Part Misfit) (ls : List Lexeme) → Gives [] r (declaration_at v n ls) → IfOk r (λ part. IsDeclaration v n ls part)
is_found v n (Ok part) ls h = declaration_found v n ls part [] h
is_found v n (Err e) ls h = tt

no_fit : (r : Result Part Misfit) (read : Option (Part × List Lexeme)) → IsErrOf r NoFit → Gives [] r read → read ≡ None
no_fit (Ok part) read e h = absurd cc
no_fit (Err NoFit) read e h = h
no_fit (Err NoMemory) read e h = absurd cc

pub returns-clause-found : goal.returns-clause-found
returns-clause-found c = is_found c.args.has_sorts c.args.number c.read_line.result c.args.line.now c.read_line.ensures

pub returns-clause-only : goal.returns-clause-only
returns-clause-only c = λ part d. subst (λ (read : Option (Part × List Lexeme)). Gives [] c.read_line.result read) (declaration_again c.args.has_sorts c.args.number c.args.line.now part d) c.read_line.ensures

pub returns-clause-misfit : goal.returns-clause-misfit
returns-clause-misfit c = λ e part d.
    let none = no_fit c.read_line.result (declaration_at c.args.has_sorts c.args.number c.args.line.now) e c.read_line.ensures in
    let some = declaration_again c.args.has_sorts c.args.number c.args.line.now part d in
    cc
