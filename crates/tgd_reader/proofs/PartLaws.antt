-- The parts of lines and of a text, and the first line that is none.
use Rattle.std.proofs.Common.{◌≡◌, ℕ, Bool, List, [], ◌∷◌, ◌++◌, Option, None, Some, Result, Ok, Err, refl, sym, ap, subst, ◌∙◌, append_assoc, inl, inr}
use Rattle.std.specs.Prelude.{IfOk, IfErr, ◌⊎◌}
use Rattle.std.proofs.lemmas.List.{append-nil}
use Rattle.pq_text.specs.declared.lexeme.Lexeme.{Lexeme}
use Rattle.pq_text.specs.declared.lexeme.Line.{Line}
use Rattle.pq_text.specs.declared.lexeme.TextLines.{TextLines}
use Rattle.pq_text.specs.Lines.{AreLines}
use Rattle.access_schema.specs.declared.part.Part.{Part}
use Rattle.tgd_reader.specs.declared.parts.Declared.{Declared}
use Rattle.tgd_reader.specs.declared.fault.PartsFault.{PartsFault}
use Rattle.tgd_reader.specs.declared.fault.PartsFault.TheVariants as faults
use Rattle.tgd_reader.specs.Reading.{declaration_at, next_parts, parts_from, PartsGive}
use Rattle.tgd_reader.specs.Version.{told_version}
use Rattle.tgd_reader.specs.Grammar.{IsDeclaration, HasPart, AreParts, AreDeclared, HasParts, HasMisfit, IsFault, IsBroken, HasFaultyLine, OkOrNoMemory}
use Rattle.pq_text.specs.Forms.{IsSome}
use Rattle.pq_text.proofs.Lexing.{lines_one}
use Rattle.tgd_reader.proofs.Declarations.{declaration_found, declaration_again}

abbrev good : List Part → List ℕ → Result Declared ℕ
good parts numbers = Ok (record { parts = parts; lines = numbers })

abbrev bad : ℕ → Result Declared ℕ
bad n = Err n

ok_is : (x : Declared) (parts : List Part) (numbers : List ℕ) → good parts numbers ≡ Ok x → (parts ≡ x.parts) × (numbers ≡ x.lines)
ok_is x parts numbers e = (cc, cc)

err_is : (x y : ℕ) → bad x ≡ bad y → x ≡ y
err_is x y e = cc

-- what is read behind the parts that are done
pub record Found (P : List Part → List ℕ → Type 0) (done : List Part) (numbers : List ℕ) (x : Declared) : Type 0 where
  pub parts : List Part
  pub lines : List ℕ
  pub parts_are : x.parts ≡ done ++ parts
  pub lines_are : x.lines ≡ numbers ++ lines
  pub more : P parts lines

line_found : (v : Bool) (P : List Part → List ℕ → Type 0) (go : List Part → List ℕ → Result Declared ℕ) (number : ℕ) (done : List Part) (numbers : List ℕ) (x : Declared) (tokens : List Lexeme) (read : Option (Part × List Lexeme)) → declaration_at v number tokens ≡ read →
    ((d : List Part) (ns : List ℕ) → go d ns ≡ Ok x → Found P d ns x) → next_parts go number done numbers tokens read ≡ Ok x → Found (λ ps ns. HasPart v number tokens ps ns P) done numbers x
line_found v P go number done numbers x [] read is again e =
    let r = again done numbers e in
    record { parts = r.parts; lines = r.lines; parts_are = r.parts_are; lines_are = r.lines_are; more = r.more }
line_found v P go number done numbers x (t ∷ ts) None is again e = absurd cc
line_found v P go number done numbers x (t ∷ ts) (Some p) is again e =
    let r = again (done ++ p.0 ∷ []) (numbers ++ number ∷ []) e in
    record {
      parts = p.0 ∷ r.parts;
      lines = number ∷ r.lines;
      parts_are = r.parts_are ∙ append_assoc done (p.0 ∷ []) r.parts;
      lines_are = r.lines_are ∙ append_assoc numbers (number ∷ []) r.lines;
      more = (declaration_found v number (t ∷ ts) p.0 p.1 is, refl, r.more);
    }

parts_found : (v : Bool) (lines : List Line) (done : List Part) (numbers : List ℕ) (x : Declared) → parts_from v done numbers lines ≡ Ok x → Found (AreParts v lines) done numbers x
parts_found v [] done numbers x e =
    let g = ok_is x done numbers e in
    record { parts = []; lines = []; parts_are = sym g.0 ∙ sym (append-nil done); lines_are = sym g.1 ∙ sym (append-nil numbers); more = (refl, refl) }
parts_found v (line ∷ lines) done numbers x e =
    let r = line_found v (AreParts v lines) (λ d ns. parts_from v d ns lines) line.number done numbers x line.tokens (declaration_at v line.number line.tokens) refl (λ d ns h. parts_found v lines d ns x h) e in
    record { parts = r.parts; lines = r.lines; parts_are = r.parts_are; lines_are = r.lines_are; more = r.more }

line_again : (v : Bool) (P : List Part → List ℕ → Type 0) (go : List Part → List ℕ → Result Declared ℕ) (number : ℕ) (done more : List Part) (numbers ns : List ℕ) (tokens : List Lexeme) →
    ((d : List Part) (ms : List ℕ) (m : List Part) (ks : List ℕ) → P m ks → go d ms ≡ good (d ++ m) (ms ++ ks)) → HasPart v number tokens more ns P →
    next_parts go number done numbers tokens (declaration_at v number tokens) ≡ good (done ++ more) (numbers ++ ns)
line_again v P go number done more numbers ns [] again h = again done numbers more ns h
line_again v P go number done [] numbers ns (t ∷ ts) again h = absurd h
line_again v P go number done (part ∷ more) numbers [] (t ∷ ts) again h = absurd h
line_again v P go number done (part ∷ more) numbers (n ∷ ns) (t ∷ ts) again h =
    let same : number ≡ n = sym h.1 in
    ap (next_parts go number done numbers (t ∷ ts)) (declaration_again v number (t ∷ ts) part h.0) ∙ again (done ++ part ∷ []) (numbers ++ number ∷ []) more ns h.2
    ∙ ap (λ (ps : List Part). good ps ((numbers ++ number ∷ []) ++ ns)) (append_assoc done (part ∷ []) more)
    ∙ ap (λ (ks : List ℕ). good (done ++ part ∷ more) ks) (append_assoc numbers (number ∷ []) ns ∙ ap (λ (k : ℕ). numbers ++ k ∷ ns) same)

parts_again : (v : Bool) (lines : List Line) (done : List Part) (numbers : List ℕ) (more : List Part) (ns : List ℕ) → AreParts v lines more ns → parts_from v done numbers lines ≡ good (done ++ more) (numbers ++ ns)
parts_again v [] done numbers more ns h =
    ap (λ (ps : List Part). good ps numbers) (sym (append-nil done) ∙ ap (λ (m : List Part). done ++ m) (sym h.0)) ∙ ap (λ (ks : List ℕ). good (done ++ more) ks) (sym (append-nil numbers) ∙ ap (λ (m : List ℕ). numbers ++ m) (sym h.1))
parts_again v (line ∷ lines) done numbers more ns h = line_again v (AreParts v lines) (λ d ms. parts_from v d ms lines) line.number done more numbers ns line.tokens (λ d ms m ks w. parts_again v lines d ms m ks w) h

none_is : (v : Bool) (number : ℕ) (tokens : List Lexeme) → declaration_at v number tokens ≡ None → (part : Part) → IsDeclaration v number tokens part → ⊥
none_is v number tokens e part d = let s = declaration_again v number tokens part d in cc

line_fault : (v : Bool) (line : Line) (lines : List Line) (go : List Part → List ℕ → Result Declared ℕ) (n : ℕ) (done : List Part) (numbers : List ℕ) (tokens : List Lexeme) (read : Option (Part × List Lexeme)) → line.tokens ≡ tokens → declaration_at v line.number tokens ≡ read →
    ((d : List Part) (ns : List ℕ) → go d ns ≡ Err n → HasMisfit v lines n) → next_parts go line.number done numbers tokens read ≡ Err n → HasMisfit v (line ∷ lines) n
line_fault v line lines go n done numbers [] read is found again e =
    let r = again done numbers e in
    record { before = line ∷ r.before; line = r.line; after = r.after; declared = r.declared; whole = ap (λ ls. line ∷ ls) r.whole; are = subst (λ ts. HasPart v line.number ts r.declared.parts r.declared.lines (AreParts v r.before)) (sym is) r.are; number_is = r.number_is; none = r.none; some = r.some }
line_fault v line lines go n done numbers (t ∷ ts) None is found again e =
    record {
      before = [];
      line = line;
      after = lines;
      declared = record { parts = []; lines = [] };
      whole = refl;
      are = (refl, refl);
      number_is = err_is line.number n e;
      none = subst (λ tokens. (part : Part) → IsDeclaration v line.number tokens part → ⊥) (sym is) (none_is v line.number (t ∷ ts) found);
      some = subst IsSome (sym is) tt;
    }
line_fault v line lines go n done numbers (t ∷ ts) (Some p) is found again e =
    let r = again (done ++ p.0 ∷ []) (numbers ++ line.number ∷ []) e in
    record {
      before = line ∷ r.before;
      line = r.line;
      after = r.after;
      declared = record { parts = p.0 ∷ r.declared.parts; lines = line.number ∷ r.declared.lines };
      whole = ap (λ ls. line ∷ ls) r.whole;
      are = subst (λ ts. HasPart v line.number ts (p.0 ∷ r.declared.parts) (line.number ∷ r.declared.lines) (AreParts v r.before)) (sym is) (declaration_found v line.number (t ∷ ts) p.0 p.1 found, refl, r.are);
      number_is = r.number_is;
      none = r.none;
      some = r.some;
    }

parts_fault : (v : Bool) (lines : List Line) (n : ℕ) (done : List Part) (numbers : List ℕ) → parts_from v done numbers lines ≡ Err n → HasMisfit v lines n
parts_fault v [] n done numbers e = absurd cc
parts_fault v (line ∷ lines) n done numbers e = line_fault v line lines (λ d ns. parts_from v d ns lines) n done numbers line.tokens (declaration_at v line.number line.tokens) refl refl (λ d ns h. parts_fault v lines n d ns h) e

-- what is read of lines of declarations is what is read of the whole lines
abbrev pub IsTold : List Line → Bool → List Line → Type 0
IsTold lines v rest = (v ≡ (told_version lines).0) × (rest ≡ (told_version lines).1)

told_give : (r : Result Declared PartsFault) (lines : List Line) (v : Bool) (rest : List Line) → IsTold lines v rest → PartsGive r (parts_from v [] [] rest) →
    PartsGive r (parts_from (told_version lines).0 [] [] (told_version lines).1)
told_give r lines v rest told h =
    subst (λ (ls : List Line). PartsGive r (parts_from (told_version lines).0 [] [] ls)) told.1 (subst (λ (b : Bool). PartsGive r (parts_from b [] [] rest)) told.0 h)

found_in : (r : Result Declared PartsFault) (v : Bool) (lines : List Line) → PartsGive r (parts_from v [] [] lines) → IfOk r (λ declared. AreParts v lines declared.parts declared.lines)
found_in (Ok x) v lines h =
    let r = parts_found v lines [] [] x h in
    subst (λ (ps : List Part). AreParts v lines ps x.lines) (sym r.parts_are) (subst (λ (ns : List ℕ). AreParts v lines r.parts ns) (sym r.lines_are) r.more)
found_in (Err e) v lines h = tt

pub are_found : (r : Result Declared PartsFault) (lines : List Line) (v : Bool) (rest : List Line) → IsTold lines v rest → PartsGive r (parts_from v [] [] rest) →
    IfOk r (λ declared. AreDeclared lines declared.parts declared.lines)
are_found r lines v rest told h = found_in r (told_version lines).0 (told_version lines).1 (told_give r lines v rest told h)

fault_in : (r : Result Declared PartsFault) (lines : List Line) → PartsGive r (parts_from (told_version lines).0 [] [] (told_version lines).1) → IfErr r (λ fault. IsFault lines fault)
fault_in (Ok x) lines h = tt
fault_in (Err faults.NoMemory) lines h = tt
fault_in (Err (faults.Line n)) lines h = parts_fault (told_version lines).0 (told_version lines).1 n [] [] h

pub is_fault : (r : Result Declared PartsFault) (lines : List Line) (v : Bool) (rest : List Line) → IsTold lines v rest → PartsGive r (parts_from v [] [] rest) →
    IfErr r (λ fault. IsFault lines fault)
is_fault r lines v rest told h = fault_in r lines (told_give r lines v rest told h)

-- ---- one answer

-- lines have one list of parts
parts_one : (v : Bool) (lines : List Line) (x y : Declared) → AreParts v lines x.parts x.lines → AreParts v lines y.parts y.lines → x ≡ y
parts_one v lines x y p q =
    let one = parts_again v lines [] [] x.parts x.lines p in
    let two = parts_again v lines [] [] y.parts y.lines q in
    let good_x : good x.parts x.lines ≡ Ok x = refl in
    let same : good x.parts x.lines ≡ Ok y = sym one ∙ two in
    let g = ok_is y x.parts x.lines same in
    let P : List Part → List ℕ → Declared = λ ps ns. record { parts = ps; lines = ns } in
    ap (λ (ps : List Part). P ps x.lines) g.0 ∙ ap (λ (ns : List ℕ). P y.parts ns) g.1

-- no line of some parts is a misfit
first_never : (v : Bool) (P : List Part → List ℕ → Type 0) (number : ℕ) (tokens : List Lexeme) (parts : List Part) (numbers : List ℕ) → IsSome tokens → ((part : Part) → IsDeclaration v number tokens part → ⊥) → HasPart v number tokens parts numbers P → ⊥
first_never v P number [] parts numbers some none has = absurd some
first_never v P number (t ∷ ts) [] numbers some none has = has
first_never v P number (t ∷ ts) (part ∷ parts) [] some none has = has
first_never v P number (t ∷ ts) (part ∷ parts) (k ∷ numbers) some none has = none part has.0

later_never : (v : Bool) (P : List Part → List ℕ → Type 0) (number : ℕ) (tokens : List Lexeme) (parts : List Part) (numbers : List ℕ) → ((ps : List Part) (ns : List ℕ) → P ps ns → ⊥) → HasPart v number tokens parts numbers P → ⊥
later_never v P number [] parts numbers go has = go parts numbers has
later_never v P number (t ∷ ts) [] numbers go has = has
later_never v P number (t ∷ ts) (part ∷ parts) [] go has = has
later_never v P number (t ∷ ts) (part ∷ parts) (k ∷ numbers) go has = go parts numbers has.2

lines_never : (v : Bool) (before : List Line) (line : Line) (after : List Line) (parts : List Part) (numbers : List ℕ) → IsSome line.tokens → ((part : Part) → IsDeclaration v line.number line.tokens part → ⊥) → AreParts v (before ++ line ∷ after) parts numbers → ⊥
lines_never v [] line after parts numbers some none are = first_never v (AreParts v after) line.number line.tokens parts numbers some none are
lines_never v (b ∷ before) line after parts numbers some none are = later_never v (AreParts v (before ++ line ∷ after)) b.number b.tokens parts numbers (λ ps ns h. lines_never v before line after ps ns some none h) are

misfit_never : (v : Bool) (lines : List Line) (n : ℕ) (x : Declared) → HasMisfit v lines n → AreParts v lines x.parts x.lines → ⊥
misfit_never v lines n x m are = lines_never v m.before m.line m.after x.parts x.lines m.some m.none (subst (λ (ls : List Line). AreParts v ls x.parts x.lines) m.whole are)

-- ---- texts

pub text_found : (text : List ℕ) (told : TextLines) (x : Declared) → AreLines text told → AreDeclared told.whole x.parts x.lines → told.broken ≡ None → HasParts text x
text_found text told x lines are whole =
    let P : Option ℕ → TextLines = λ b. record { whole = told.whole; broken = b } in
    (told.whole, subst (λ (b : Option ℕ). AreLines text (P b)) whole lines, are)

same_whole : (a b : TextLines) → a ≡ b → a.whole ≡ b.whole
same_whole a b e = ap (λ (t : TextLines). t.whole) e

not_both : (a b : TextLines) (n : ℕ) → a ≡ b → a.broken ≡ Some n → b.broken ≡ None → ⊥
not_both a b n e p q = let r : a.broken ≡ b.broken = ap (λ (t : TextLines). t.broken) e in cc

fault_never : (n : ℕ) (told b : TextLines) (y : Declared) → told ≡ b → (IsFault told.whole (faults.Line n) ⊎ IsBroken told n) → b.broken ≡ None → AreDeclared b.whole y.parts y.lines → ⊥
fault_never n told b y same (inl m) none are =
    misfit_never (told_version told.whole).0 (told_version told.whole).1 n y m (subst (λ (ls : List Line). AreDeclared ls y.parts y.lines) (sym (same_whole told b same)) are)
fault_never n told b y same (inr broken) none are = not_both told b n same broken.0 none

pub text_only : (text : List ℕ) (r : Result Declared PartsFault) → IfOk r (λ x. HasParts text x) → IfErr r (λ fault. HasFaultyLine text fault) → (y : Declared) → HasParts text y → OkOrNoMemory y r
text_only text (Ok x) found fault y h =
    let a : TextLines = record { whole = found.0; broken = None } in
    let b : TextLines = record { whole = h.0; broken = None } in
    let same = same_whole a b (lines_one text a b found.1 h.1) in
    parts_one (told_version h.0).0 (told_version h.0).1 x y (subst (λ (ls : List Line). AreDeclared ls x.parts x.lines) same found.2) h.2
text_only text (Err faults.NoMemory) found fault y h = tt
text_only text (Err (faults.Line n)) found fault y h =
    let b : TextLines = record { whole = h.0; broken = None } in
    fault_never n fault.0 b y (lines_one text fault.0 b fault.1 h.1) fault.2 refl h.2
