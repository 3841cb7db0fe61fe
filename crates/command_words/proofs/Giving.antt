-- What items give, item by item.
use Rattle.std.proofs.Common.{◌≡◌, ℕ, ◌<◌, ◌≤◌, ◌+◌, Bool, true, false, eqb, List, [], ◌∷◌, ◌++◌, length, Option, None, Some, refl, sym, ap, subst, ◌∙◌, arith, append_assoc}
use Rattle.std.specs.Prelude.{if◌then◌else◌, IfNone, IfSome, MatchOption, IsSome}
use Rattle.std.specs.Fmt.{decimal}
use Rattle.std.proofs.lemmas.Bool.{eqb-true}
use Rattle.command_words.specs.Table.{same_option, InRange, same_flag}
use Rattle.command_words.specs.Splits.{Item, Positional, Given, Raised, Begins, Splits, End, More, positionals_of, texts_of, times_raised, IsSet, Once, Absent, IsRaised, item_of}
use Rattle.command_words.specs.Arguments.{words_of, given_number, given_flag, IsGiven, Give, AreArguments, MayBe}
use Rattle.command_words.specs.declared.item.Item.{Item as Lent}
use Rattle.command_words.specs.declared.table.CommandName.{CommandName}
use Rattle.command_words.specs.declared.table.OptionName.{OptionName}
use Rattle.command_words.specs.declared.table.OptionName.TheVariants.{Firings, Search, Workers, Calls}
use Rattle.command_words.specs.declared.table.FlagName.{FlagName}
use Rattle.command_words.specs.declared.table.FlagName.TheVariants as flag
use Rattle.command_words.specs.declared.given.Arguments.{Arguments}
use Rattle.command_words.proofs.Splitting.{Parts, ended, more, parts, none_begins, first_once, same_options, same_itself, same_flags}

-- ---- items one behind another

positionals_append : (items others : List Item) → positionals_of (items ++ others) ≡ positionals_of items ++ positionals_of others
positionals_append [] others = refl
positionals_append (Positional word ∷ items) others = ap (λ (ws : List (List ℕ)). word ∷ ws) (positionals_append items others)
positionals_append (Given option text ∷ items) others = positionals_append items others
positionals_append (Raised which ∷ items) others = positionals_append items others

texts_step : (text : List ℕ) (all front back : List (List ℕ)) (t : Bool) → all ≡ front ++ back → (if t then text ∷ all else all) ≡ (if t then text ∷ front else front) ++ back
texts_step text all front back true e = ap (λ (ws : List (List ℕ)). text ∷ ws) e
texts_step text all front back false e = e

texts_append : (option : OptionName) (items others : List Item) → texts_of option (items ++ others) ≡ texts_of option items ++ texts_of option others
texts_append option [] others = refl
texts_append option (Positional word ∷ items) others = texts_append option items others
texts_append option (Given other text ∷ items) others = texts_step text (texts_of option (items ++ others)) (texts_of option items) (texts_of option others) (same_option option other) (texts_append option items others)
texts_append option (Raised which ∷ items) others = texts_append option items others

raised_append : (which : FlagName) (items others : List Item) → times_raised which (items ++ others) ≡ times_raised which items + times_raised which others
raised_append which [] others = omega arith
raised_append which (Positional word ∷ items) others = raised_append which items others
raised_append which (Given option text ∷ items) others = raised_append which items others
raised_append which (Raised other ∷ items) others = let rest = raised_append which items others in omega (arith, rest)

append_none : (xs : List (List ℕ)) → xs ++ [] ≡ xs
append_none [] = refl
append_none (x ∷ xs) = ap (λ (ws : List (List ℕ)). x ∷ ws) (append_none xs)

items_none : (xs : List Item) → xs ++ [] ≡ xs
items_none [] = refl
items_none (x ∷ xs) = ap (λ (ws : List Item). x ∷ ws) (items_none xs)

-- ---- one more positional

moved : (option : OptionName) (items others : List Item) (number : Option ℕ) → texts_of option others ≡ texts_of option items → IsGiven option items number → IsGiven option others number
moved option items others None e is = e ∙ is
moved option items others (Some n) e is = (e ∙ is.0, is.1)

still_raised : (which : FlagName) (items others : List Item) (up after : Bool) → times_raised which others ≡ times_raised which items → after ≡ up → IsRaised which items up → IsRaised which others after
still_raised which items others true after e is raised = subst (IsRaised which others) (sym is) (e ∙ raised)
still_raised which items others false after e is raised = subst (IsRaised which others) (sym is) (e ∙ raised)

-- an item that raises no flag, behind others
unraised : (which : FlagName) (items : List Item) (item : Item) → times_raised which (item ∷ []) ≡ 0 → times_raised which (items ++ item ∷ []) ≡ times_raised which items
unraised which items item none = let all = raised_append which items (item ∷ []) in omega (arith, all, none)

pub give_positional : (items : List Item) (word : List ℕ) (arguments after : Arguments) → words_of after.positionals ≡ words_of arguments.positionals ++ word ∷ [] → after.firings ≡ arguments.firings → after.search ≡ arguments.search → after.workers ≡ arguments.workers → after.calls ≡ arguments.calls → after.verify ≡ arguments.verify → Give items arguments → Give (items ++ Positional word ∷ []) after
give_positional items word arguments after words same alike equal capped flagged give = record {
  in_order = positionals_append items (Positional word ∷ []) ∙ ap (λ (ws : List (List ℕ)). ws ++ word ∷ []) give.in_order ∙ sym words;
  are_given = λ option.
      let texts = texts_append option items (Positional word ∷ []) ∙ append_none (texts_of option items) in
      subst (λ (n : Option ℕ). IsGiven option (items ++ Positional word ∷ []) n) (kept option) (moved option items (items ++ Positional word ∷ []) (given_number option arguments) texts (give.are_given option));
  are_raised = λ which. still_raised which items (items ++ Positional word ∷ []) (given_flag which arguments) (given_flag which after) (unraised which items (Positional word) refl) (kept_flag which) (give.are_raised which);
}
  where
    kept_flag : (which : FlagName) → given_flag which after ≡ given_flag which arguments
    kept_flag flag.Verify = flagged

    kept : (option : OptionName) → given_number option arguments ≡ given_number option after
    kept Firings = sym same
    kept Search = sym alike
    kept Workers = sym equal
    kept Calls = sym capped

long : (xs ys : List (List ℕ)) (word : List ℕ) → length xs ≡ 3 → length (xs ++ word ∷ ys) ≤ 3 → ⊥
long [] ys word e le = absurd (omega arith)
long (a ∷ []) ys word e le = absurd (omega arith)
long (a ∷ b ∷ []) ys word e le = absurd (omega arith)
long (a ∷ b ∷ c ∷ []) ys word e le = absurd (omega arith)
long (a ∷ b ∷ c ∷ d ∷ xs) ys word e le = absurd (omega arith)

-- a fourth positional
pub fourth_positional : (items rest : List Item) (word : List ℕ) (arguments : Arguments) → length (words_of arguments.positionals) ≡ 3 → Give items arguments → MayBe (items ++ Positional word ∷ rest) → ⊥
fourth_positional items rest word arguments three give may =
    let all = positionals_append items (Positional word ∷ rest) in
    let some : length (positionals_of items) ≡ 3 = ap length give.in_order ∙ three in
    long (positionals_of items) (positionals_of rest) word some (subst (λ (ws : List (List ℕ)). length ws ≤ 3) all may.few)

-- ---- one more option

given_text : (option other : OptionName) (text : List ℕ) (items : List Item) (n : ℕ) (number after : Option ℕ) (t : Bool) → same_option option other ≡ t → text ≡ decimal n → InRange other n → IsGiven option items number → (option ≡ other → number ≡ None) → after ≡ (if t then Some n else number) →
    texts_of option (items ++ Given other text ∷ []) ≡ texts_of option items ++ (if t then text ∷ [] else []) → IsGiven option (items ++ Given other text ∷ []) after
given_text option other text items n number after true same is le given free numbers texts =
    let which = same_options option other same in
    let empty : texts_of option items ≡ [] = subst (IsGiven option items) (free which) given in
    let all : texts_of option (items ++ Given other text ∷ []) ≡ decimal n ∷ [] = texts ∙ ap (λ (ws : List (List ℕ)). ws ++ text ∷ []) empty ∙ ap (λ (w : List ℕ). w ∷ []) is in
    let within : InRange option n = subst (λ (o : OptionName). InRange o n) (sym which) le in
    subst (IsGiven option (items ++ Given other text ∷ [])) (sym numbers) (all, within)
given_text option other text items n number after false same is le given free numbers texts =
    subst (IsGiven option (items ++ Given other text ∷ [])) (sym numbers) (moved option items (items ++ Given other text ∷ []) number (texts ∙ append_none (texts_of option items)) given)

pub give_option : (items : List Item) (other : OptionName) (text : List ℕ) (n : ℕ) (arguments after : Arguments) → text ≡ decimal n → InRange other n → given_number other arguments ≡ None → after.positionals ≡ arguments.positionals →
    ((option : OptionName) → given_number option after ≡ (if same_option option other then Some n else given_number option arguments)) → ((which : FlagName) → given_flag which after ≡ given_flag which arguments) → Give items arguments → Give (items ++ Given other text ∷ []) after
give_option items other text n arguments after is le free same numbers flags give = record {
  in_order = positionals_append items (Given other text ∷ []) ∙ append_none (positionals_of items) ∙ give.in_order ∙ ap words_of (sym same);
  are_given = λ option.
      given_text option other text items n (given_number option arguments) (given_number option after) (same_option option other) refl is le (give.are_given option)
      (λ which. ap (λ (o : OptionName). given_number o arguments) which ∙ free) (numbers option) (texts_append option items (Given other text ∷ []));
  are_raised = λ which. still_raised which items (items ++ Given other text ∷ []) (given_flag which arguments) (given_flag which after) (unraised which items (Given other text) refl) (flags which) (give.are_raised which);
}

-- ---- one more flag

flag_after : (other which : FlagName) (items : List Item) (was after t : Bool) → same_flag other which ≡ t → IsRaised other items was → (other ≡ which → was ≡ false) → after ≡ (if t then true else was) → IsRaised other (items ++ Raised which ∷ []) after
flag_after other which items was after true same raised free is =
    let none : times_raised other items ≡ 0 = subst (IsRaised other items) (free (same_flags other which same)) raised in
    let last : times_raised other (Raised which ∷ []) ≡ 1 = ap (λ (t : Bool). (if t then 1 else 0) + 0) same in
    let all = raised_append other items (Raised which ∷ []) in
    let once : times_raised other (items ++ Raised which ∷ []) ≡ 1 = omega (arith, all, none, last) in
    subst (IsRaised other (items ++ Raised which ∷ [])) (sym is) once
flag_after other which items was after false same raised free is =
    let last : times_raised other (Raised which ∷ []) ≡ 0 = ap (λ (t : Bool). (if t then 1 else 0) + 0) same in
    still_raised other items (items ++ Raised which ∷ []) was after (unraised other items (Raised which) last) is raised

pub give_flag : (items : List Item) (which : FlagName) (arguments after : Arguments) → given_flag which arguments ≡ false → after.positionals ≡ arguments.positionals → ((option : OptionName) → given_number option after ≡ given_number option arguments) →
    ((other : FlagName) → given_flag other after ≡ (if same_flag other which then true else given_flag other arguments)) → Give items arguments → Give (items ++ Raised which ∷ []) after
give_flag items which arguments after free same numbers flags give = record {
  in_order = positionals_append items (Raised which ∷ []) ∙ append_none (positionals_of items) ∙ give.in_order ∙ ap words_of (sym same);
  are_given = λ option.
      let texts = texts_append option items (Raised which ∷ []) ∙ append_none (texts_of option items) in
      subst (λ (n : Option ℕ). IsGiven option (items ++ Raised which ∷ []) n) (sym (numbers option)) (moved option items (items ++ Raised which ∷ []) (given_number option arguments) texts (give.are_given option));
  are_raised = λ other.
      flag_after other which items (given_flag other arguments) (given_flag other after) (same_flag other which) refl (give.are_raised other)
      (λ e. ap (λ (f : FlagName). given_flag f arguments) e ∙ free) (flags other);
}

same_flag_itself : (which : FlagName) → same_flag which which ≡ true
same_flag_itself flag.Verify = refl

-- a flag that is raised already
raised_twice : (items rest : List Item) (which : FlagName) (arguments : Arguments) → given_flag which arguments ≡ true → Give items arguments → MayBe (items ++ Raised which ∷ rest) → ⊥
raised_twice items rest which arguments up give may =
    let before : times_raised which items ≡ 1 = subst (IsRaised which items) up (give.are_raised which) in
    let all = raised_append which items (Raised which ∷ rest) in
    let again : times_raised which (Raised which ∷ rest) ≡ 1 + times_raised which rest = ap (λ (t : Bool). (if t then 1 else 0) + times_raised which rest) (same_flag_itself which) in
    let once = may.once which in
    omega (arith, before, all, again, once)

-- what `with_flag` answers
pub with_flag : (lent : Lent) (which : FlagName) (arguments : Arguments) (r : Option Arguments) → item_of lent ≡ Raised which →
    MatchOption r (given_flag which arguments ≡ true) (λ more. given_flag which arguments ≡ false) → IfSome r (λ more. more.positionals ≡ arguments.positionals) →
    IfSome r (λ more. (option : OptionName) → given_number option more ≡ given_number option arguments) →
    IfSome r (λ more. (other : FlagName) → given_flag other more ≡ (if same_flag other which then true else given_flag other arguments)) →
    IfSome r (λ more. (items : List Item) → Give items arguments → Give (items ++ item_of lent ∷ []) more)
with_flag lent which arguments None item free same numbers flags = tt
with_flag lent which arguments (Some next) item free same numbers flags = λ items give.
    subst (λ (i : Item). Give (items ++ i ∷ []) next) (sym item) (give_flag items which arguments next free same numbers flags give)

pub without_flag : (lent : Lent) (which : FlagName) (arguments : Arguments) (r : Option Arguments) → item_of lent ≡ Raised which →
    MatchOption r (given_flag which arguments ≡ true) (λ more. given_flag which arguments ≡ false) →
    IfNone r ((items rest : List Item) → Give items arguments → MayBe (items ++ item_of lent ∷ rest) → ⊥)
without_flag lent which arguments None item up = λ items rest give may.
    raised_twice items rest which arguments up give (subst (λ (i : Item). MayBe (items ++ i ∷ rest)) item may)
without_flag lent which arguments (Some next) item up = tt

-- a list with a text inside that is one text is that text alone
alone : (xs ys : List (List ℕ)) (text one : List ℕ) → xs ++ text ∷ ys ≡ one ∷ [] → (xs ≡ []) × (text ≡ one)
alone [] ys text one e = (refl, cc)
alone (x ∷ []) ys text one e = absurd cc
alone (x ∷ y ∷ xs) ys text one e = absurd cc

inside : (xs ys : List (List ℕ)) (text : List ℕ) → xs ++ text ∷ ys ≡ [] → ⊥
inside [] ys text e = absurd cc
inside (x ∷ xs) ys text e = absurd cc

texts_with : (option : OptionName) (text : List ℕ) (items rest : List Item) → texts_of option (items ++ Given option text ∷ rest) ≡ texts_of option items ++ text ∷ texts_of option rest
texts_with option text items rest =
    texts_append option items (Given option text ∷ rest)
    ∙ ap (λ (t : Bool). texts_of option items ++ (if t then text ∷ texts_of option rest else texts_of option rest)) (same_itself option)

set_once : (option : OptionName) (text : List ℕ) (items rest : List Item) (n : ℕ) → IsSet option (items ++ Given option text ∷ rest) n → (texts_of option items ≡ []) × (text ≡ decimal n) × InRange option n
set_once option text items rest n (Once is le) = let one = alone (texts_of option items) (texts_of option rest) text (decimal n) (sym (texts_with option text items rest) ∙ is) in (one.0, one.1, le)
set_once option text items rest n (Absent is default) = absurd (inside (texts_of option items) (texts_of option rest) text (sym (texts_with option text items rest) ∙ is))

-- a text that is no number in the range
pub no_number : (items rest : List Item) (option : OptionName) (text : List ℕ) → ((n : ℕ) → InRange option n → text ≡ decimal n → ⊥) → MayBe (items ++ Given option text ∷ rest) → ⊥
no_number items rest option text none may =
    let (n, set) = may.settable option in
    let once = set_once option text items rest n set in
    none n once.2 once.1

twice : (option : OptionName) (items : List Item) (number : Option ℕ) (n : ℕ) → number ≡ Some n → IsGiven option items number → texts_of option items ≡ [] → ⊥
twice option items None n e given empty = absurd cc
twice option items (Some m) n e given empty = let one = given.0 in absurd cc

-- an option that is given already
pub given_twice : (items rest : List Item) (option : OptionName) (text : List ℕ) (arguments : Arguments) (n : ℕ) → given_number option arguments ≡ Some n → Give items arguments → MayBe (items ++ Given option text ∷ rest) → ⊥
given_twice items rest option text arguments n some give may =
    let (m, set) = may.settable option in
    let once = set_once option text items rest m set in
    twice option items (given_number option arguments) n some (give.are_given option) once.0

-- ---- the words up to a place

-- The words up to here are items that give the arguments, and the others stand behind them.
pub record Sofar (name : CommandName) (words left : List (List ℕ)) (arguments : Arguments) : Type 0 where
  pub done : List Item
  pub give : Give done arguments
  pub behind : (items : List Item) → Splits name left items → Splits name words (done ++ items)
  pub only : (items : List Item) → Splits name words items → (others : List Item) × (items ≡ done ++ others) × Splits name left others

-- the items of words that begin with an item
behind_first : (name : CommandName) (words : List (List ℕ)) (item : Item) (rest : List (List ℕ)) (items : List Item) → Begins name words item rest → Parts name words items → (others : List Item) × (items ≡ item ∷ others) × Splits name rest others
behind_first name words item rest items begins (ended e is) = absurd (none_begins name words item rest begins e)
behind_first name words item rest items begins (more item' rest' others is begins' splits) =
    let same = first_once name words item item' rest rest' begins begins' in
    (others, is ∙ ap (λ (i : Item). i ∷ others) (sym same.0), subst (λ (ws : List (List ℕ)). Splits name ws others) (sym same.1) splits)

pub sofar_more : (name : CommandName) (words left after : List (List ℕ)) (item : Item) (arguments next : Arguments) → Begins name left item after → ((items : List Item) → Give items arguments → Give (items ++ item ∷ []) next) → Sofar name words left arguments → Sofar name words after next
sofar_more name words left after item arguments next begins gives sofar = record {
  done = sofar.done ++ item ∷ [];
  give = gives sofar.done sofar.give;
  behind = λ items splits. subst (Splits name words) (sym (append_assoc sofar.done (item ∷ []) items)) (sofar.behind (item ∷ items) (More left item after items begins splits));
  only = λ items splits.
      let (others, is, rest) = sofar.only items splits in
      let (tail, front, last) = behind_first name left item after others begins (parts name left others rest) in
      (tail, is ∙ ap (λ (i : List Item). sofar.done ++ i) front ∙ sym (append_assoc sofar.done (item ∷ []) tail), last);
}

is_none : (left : List (List ℕ)) → length left ≡ 0 → left ≡ []
is_none [] e = refl
is_none (w ∷ ws) e = absurd (omega (arith, e))

pub sofar_all : (name : CommandName) (words left : List (List ℕ)) (arguments : Arguments) → true ≡ eqb (length left) 0 → Sofar name words left arguments → AreArguments name words arguments
sofar_all name words left arguments test sofar = record {
  items = sofar.done;
  splits =
      let e = is_none left (eqb-true (length left) 0 (sym test)) in
      subst (Splits name words) (items_none sofar.done) (sofar.behind [] (subst (λ (ws : List (List ℕ)). Splits name ws []) (sym e) End));
  give = sofar.give;
}

-- no item begins what is left
no_item : (name : CommandName) (left : List (List ℕ)) (items : List Item) → 0 < length left → ((item : Item) (rest : List (List ℕ)) → Begins name left item rest → ⊥) → Parts name left items → ⊥
no_item name left items some none (ended e is) = omega (arith, ap length e)
no_item name left items some none (more item rest others is begins splits) = none item rest begins

-- an item that no command may have
pub sofar_refused : (name : CommandName) (words left after : List (List ℕ)) (item : Item) (arguments : Arguments) (items : List Item) → Begins name left item after → ((done rest : List Item) → Give done arguments → MayBe (done ++ item ∷ rest) → ⊥) → Sofar name words left arguments → Splits name words items → MayBe items → ⊥
sofar_refused name words left after item arguments items begins refused sofar splits may =
    let (others, is, rest) = sofar.only items splits in
    let (tail, front, last) = behind_first name left item after others begins (parts name left others rest) in
    refused sofar.done tail sofar.give (subst MayBe (is ∙ ap (λ (i : List Item). sofar.done ++ i) front) may)

pub none_at : {A : Type 0} {P : Type 0} (r : Option A) → r ≡ None → P → IfNone r P
none_at None e is = is
none_at (Some a) e is = absurd cc

-- what `with_number` answers
pub with_option : (lent : Lent) (option : OptionName) (text : List ℕ) (n : ℕ) (arguments : Arguments) (r : Option Arguments) → item_of lent ≡ Given option text → text ≡ decimal n → InRange option n →
    MatchOption r (IsSome (given_number option arguments)) (λ more. given_number option arguments ≡ None) → IfSome r (λ more. more.positionals ≡ arguments.positionals) →
    IfSome r (λ more. (other : OptionName) → given_number other more ≡ (if same_option other option then Some n else given_number other arguments)) →
    IfSome r (λ more. (which : FlagName) → given_flag which more ≡ given_flag which arguments) →
    IfSome r (λ more. (items : List Item) → Give items arguments → Give (items ++ item_of lent ∷ []) more)
with_option lent option text n arguments None item is le free same numbers flags = tt
with_option lent option text n arguments (Some next) item is le free same numbers flags = λ items give.
    subst (λ (i : Item). Give (items ++ i ∷ []) next) (sym item) (give_option items option text n arguments next is le free same numbers flags give)

not_free : (items rest : List Item) (option : OptionName) (text : List ℕ) (arguments : Arguments) (number : Option ℕ) → given_number option arguments ≡ number → IsSome number → Give items arguments → MayBe (items ++ Given option text ∷ rest) → ⊥
not_free items rest option text arguments None e some give may = absurd cc
not_free items rest option text arguments (Some n) e some give may = given_twice items rest option text arguments n e give may

pub without_option : (lent : Lent) (option : OptionName) (text : List ℕ) (arguments : Arguments) (r : Option Arguments) → item_of lent ≡ Given option text →
    MatchOption r (IsSome (given_number option arguments)) (λ more. given_number option arguments ≡ None) →
    IfNone r ((items rest : List Item) → Give items arguments → MayBe (items ++ item_of lent ∷ rest) → ⊥)
without_option lent option text arguments None item some = λ items rest give may.
    not_free items rest option text arguments (given_number option arguments) refl some give (subst (λ (i : Item). MayBe (items ++ i ∷ rest)) item may)
without_option lent option text arguments (Some next) item some = tt
