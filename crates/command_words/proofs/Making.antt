-- Commands from what the words give.
use Rattle.std.proofs.Common.{◌≡◌, ℕ, ◌<◌, ◌≤◌, ◌&&◌, Bool, true, false, List, [], ◌∷◌, ◌++◌, length, get_or, ◌^◌, Option, None, Some, refl, sym, ap, subst, ◌∙◌, arith}
use Rattle.std.specs.Cmp.Lexicographic.{pointwise, bytes_decides}
use Rattle.std.specs.Prelude.{nat_eq, nat_le, codes, if◌then◌else◌, option_map, unwrap_or, IfSome, IfNone}
use Rattle.std.specs.Fmt.{decimal}
use Rattle.std.specs.Str.Parse.{digits_value}
use Rattle.std.proofs.lemmas.Bool.{and_parts, le-leb, leb-true}
use Rattle.std.proofs.lemmas.Fmt.{decimal_injective, decimal_is_IsNumeral}
use Rattle.command_words.specs.Table.{command_word, takes, takes_flag, least, limit, InRange, default_number}
use Rattle.command_words.specs.Splits.{Item, Splits, positionals_of, times_raised, IsSet, Once, Absent, IsRaised}
use Rattle.command_words.specs.Words.{Command, Help, Schema, Explain, Run, Batch, Exec, Check, Verify, Crawl, Reach, World, Setting, Flag, Asks, firings, firings_and_search, workers, workers_and_calls, IsCommand, seen_as}
use Rattle.command_words.specs.Arguments.{words_of, given_number, number_of, size_of, IsGiven, AreArguments, MayBe, made}
use Rattle.command_words.specs.declared.command.Command.{Command as Coded}
use Rattle.command_words.specs.declared.table.CommandName.{CommandName}
use Rattle.command_words.specs.declared.table.CommandName.TheVariants as name
use Rattle.command_words.specs.declared.table.OptionName.{OptionName}
use Rattle.command_words.specs.declared.table.OptionName.TheVariants.{Firings, Search, Workers, Calls}
use Rattle.command_words.specs.declared.table.FlagName.{FlagName}
use Rattle.command_words.specs.declared.table.FlagName.TheVariants as flag
use Rattle.command_words.specs.declared.given.Arguments.{Arguments}
use Rattle.command_words.proofs.Splitting.{splits_once, not_taken, not_raised, front_and_rest}

-- a command's word is its own
named_by : List ℕ → CommandName
named_by word =
    if pointwise nat_eq word (codes "help") then name.Help else (if pointwise nat_eq word (codes "schema") then name.Schema else
    (if pointwise nat_eq word (codes "explain") then name.Explain else (if pointwise nat_eq word (codes "run") then name.Run else
    (if pointwise nat_eq word (codes "batch") then name.Batch else (if pointwise nat_eq word (codes "exec") then name.Exec else
    (if pointwise nat_eq word (codes "check") then name.Check else (if pointwise nat_eq word (codes "verify") then name.Verify else
    (if pointwise nat_eq word (codes "crawl") then name.Crawl else (if pointwise nat_eq word (codes "reach") then name.Reach else name.World)))))))))

its_own : (which : CommandName) → named_by (command_word which) ≡ which
unfolding named_by
its_own name.Help = refl
its_own name.Schema = refl
its_own name.Explain = refl
its_own name.Run = refl
its_own name.Batch = refl
its_own name.Exec = refl
its_own name.Check = refl
its_own name.Verify = refl
its_own name.Crawl = refl
its_own name.Reach = refl
its_own name.World = refl

same_command : (one other : CommandName) → command_word one ≡ command_word other → one ≡ other
same_command one other e = sym (its_own one) ∙ ap named_by e ∙ its_own other

-- ---- sizes of worlds

size_case : (text : List ℕ) (m n : ℕ) (b : Bool) → (pointwise nat_eq text (decimal m) && (nat_le 1 m && nat_le m 10000)) ≡ b → (if b then Some m else None) ≡ Some n →
    (text ≡ decimal n) × (1 ≤ n) × (n ≤ 10000)
size_case text m n true is e =
    let same : m ≡ n = cc in
    let parts = and_parts (pointwise nat_eq text (decimal m)) (nat_le 1 m && nat_le m 10000) is in
    let limits = and_parts (nat_le 1 m) (nat_le m 10000) parts.1 in
    let low = leb-true 1 m limits.0 in
    let high = leb-true m 10000 limits.1 in
    ((bytes_decides text (decimal m)).0 parts.0 ∙ ap decimal same, omega (arith, same, low), omega (arith, same, high))
size_case text m n false is e = absurd cc

-- a size that is read is the number that is written
pub size_so : (text : List ℕ) (n : ℕ) → size_of text ≡ Some n → (text ≡ decimal n) × (1 ≤ n) × (n ≤ 10000)
size_so text n e = size_case text (digits_value 10 text) n (pointwise nat_eq text (decimal (digits_value 10 text)) && (nat_le 1 (digits_value 10 text) && nat_le (digits_value 10 text) 10000)) refl e

-- and a number in range that is written is read
pub size_is : (text : List ℕ) (n : ℕ) → text ≡ decimal n → 1 ≤ n → n ≤ 10000 → size_of text ≡ Some n
size_is text n is low high =
    let value : digits_value 10 text ≡ n = ap (digits_value 10) is ∙ (decimal_is_IsNumeral n (omega (arith, high))).1 in
    let same : pointwise nat_eq text (decimal (digits_value 10 text)) ≡ true = (bytes_decides text (decimal (digits_value 10 text))).1 (is ∙ ap decimal (sym value)) in
    ap (λ b. if b && (nat_le 1 (digits_value 10 text) && nat_le (digits_value 10 text) 10000) then Some (digits_value 10 text) else None) same
    ∙ ap (λ m. if nat_le 1 m && nat_le m 10000 then Some m else None) value
    ∙ ap (λ b. if b && nat_le n 10000 then Some n else None) (le-leb 1 n low)
    ∙ ap (λ b. if b then Some n else None) (le-leb n 10000 high)

-- a text of 0 is no size
size_never : (b : Bool) → (if◌then◌else◌ {A = Option ℕ} (b && (nat_le 1 0 && nat_le 0 10000)) (Some 0) None) ≡ None
size_never true = refl
size_never false = refl

pub size_zero : (text : List ℕ) → text ≡ decimal 0 → size_of text ≡ None
size_zero text is =
    let value : digits_value 10 text ≡ 0 = ap (digits_value 10) is ∙ (decimal_is_IsNumeral 0 (omega arith)).1 in
    ap (λ m. if pointwise nat_eq text (decimal m) && (nat_le 1 m && nat_le m 10000) then Some m else None) value
    ∙ size_never (pointwise nat_eq text (decimal 0))

-- what a text that is no size makes
made_none : (text : List ℕ) (lanes : ℕ) (command : Command) (o : Option ℕ) → size_of text ≡ o → option_map (λ size. World size lanes) o ≡ Some command → (n : ℕ) × (World n lanes ≡ command) × (text ≡ decimal n) × (1 ≤ n) × (n ≤ 10000)
made_none text lanes command None is e = absurd cc
made_none text lanes command (Some n) is e = let so = size_so text n is in (n, cc, so.0, so.1, so.2)

made_size : (text : List ℕ) (lanes : ℕ) (command : Command) → option_map (λ size. World size lanes) (size_of text) ≡ Some command → (n : ℕ) × (World n lanes ≡ command) × (text ≡ decimal n) × (1 ≤ n) × (n ≤ 10000)
made_size text lanes command e = made_none text lanes command (size_of text) refl e

-- the words are the command that is made of their items
record Makes (words : List (List ℕ)) (command : Command) : Type 0 where
  pub name : CommandName
  pub behind : List (List ℕ)
  pub items : List Item
  pub number : ℕ
  pub units : ℕ
  pub lanes : ℕ
  pub calls : ℕ
  pub verify : Bool
  pub first : words ≡ command_word name ∷ behind
  pub splits : Splits name behind items
  pub set : IsSet Firings items number
  pub set_search : IsSet Search items units
  pub set_workers : IsSet Workers items lanes
  pub set_calls : IsSet Calls items calls
  pub set_verify : IsRaised flag.Verify items verify
  pub is_made : made name (positionals_of items) number units lanes calls verify ≡ Some command

made_of : (words : List (List ℕ)) (which : CommandName) (positionals : List (List ℕ)) (settings : List Setting) (n units lanes calls : ℕ) (verify : Bool) (command : Command) (asks : Asks words which positionals settings) →
    IsSet Firings asks.items n → IsSet Search asks.items units → IsSet Workers asks.items lanes → IsSet Calls asks.items calls → IsRaised flag.Verify asks.items verify → made which positionals n units lanes calls verify ≡ Some command → Makes words command
made_of words which positionals settings n units lanes calls verify command asks set searched worked capped flagged is = record {
  name = which;
  behind = asks.behind;
  items = asks.items;
  number = n;
  units = units;
  lanes = lanes;
  calls = calls;
  verify = verify;
  first = asks.first;
  splits = asks.splits;
  set = set;
  set_search = searched;
  set_workers = worked;
  set_calls = capped;
  set_verify = flagged;
  is_made = ap (λ (ps : List (List ℕ)). made which ps n units lanes calls verify) asks.in_order ∙ is;
}

-- an option that a command does not take
untaken : (words : List (List ℕ)) (which : CommandName) (positionals : List (List ℕ)) (settings : List Setting) (option : OptionName) (asks : Asks words which positionals settings) → takes which option ≡ false → IsSet option asks.items (default_number option)
untaken words which positionals settings option asks off = Absent (not_taken which option asks.behind asks.items off asks.splits) refl

-- a flag that a command does not take
unflagged : (words : List (List ℕ)) (which : CommandName) (positionals : List (List ℕ)) (settings : List Setting) (asks : Asks words which positionals settings) → takes_flag which flag.Verify ≡ false → IsRaised flag.Verify asks.items false
unflagged words which positionals settings asks off = not_raised which flag.Verify asks.behind asks.items off asks.splits

-- a command without options and flags
unset : (words : List (List ℕ)) (which : CommandName) (positionals : List (List ℕ)) (command : Command) →
    takes which Firings ≡ false → takes which Search ≡ false → takes which Workers ≡ false → takes which Calls ≡ false → takes_flag which flag.Verify ≡ false →
    made which positionals 10000 10000 1 100000 false ≡ Some command → Asks words which positionals [] → Makes words command
unset words which positionals command off without alone uncapped down is asks =
    made_of words which positionals [] 10000 10000 1 100000 false command asks (untaken words which positionals [] Firings asks off) (untaken words which positionals [] Search asks without)
    (untaken words which positionals [] Workers asks alone) (untaken words which positionals [] Calls asks uncapped) (unflagged words which positionals [] asks down) is

-- a command that makes calls and decides nothing
delivering : (words : List (List ℕ)) (which : CommandName) (positionals : List (List ℕ)) (lanes calls : ℕ) (command : Command) →
    takes which Firings ≡ false → takes which Search ≡ false → takes_flag which flag.Verify ≡ false →
    made which positionals 10000 10000 lanes calls false ≡ Some command → Asks words which positionals (workers_and_calls lanes calls) → Makes words command
delivering words which positionals lanes calls command off without down is asks =
    let settings = workers_and_calls lanes calls in
    made_of words which positionals settings 10000 10000 lanes calls false command asks
    (untaken words which positionals settings Firings asks off) (untaken words which positionals settings Search asks without) asks.are_set.0 asks.are_set.1.0 (unflagged words which positionals settings asks down) is

makes : (words : List (List ℕ)) (command : Command) → IsCommand words command → Makes words command
makes words Help asks = unset words name.Help [] Help refl refl refl refl refl refl asks
makes words (Schema schema) asks = unset words name.Schema (schema ∷ []) (Schema schema) refl refl refl refl refl refl asks
makes words (Explain schema query n units) asks =
    let these = schema ∷ query ∷ [] in
    let settings = firings_and_search n units in
    made_of words name.Explain these settings n units 1 100000 false (Explain schema query n units) asks asks.are_set.0 asks.are_set.1.0
    (untaken words name.Explain these settings Workers asks refl) (untaken words name.Explain these settings Calls asks refl) (unflagged words name.Explain these settings asks refl) refl
makes words (Run schema query n units lanes calls verify) asks =
    made_of words name.Run (schema ∷ query ∷ []) (firings_and_search n units ++ workers_and_calls lanes calls ++ Flag flag.Verify verify ∷ []) n units lanes calls verify (Run schema query n units lanes calls verify) asks
    asks.are_set.0 asks.are_set.1.0 asks.are_set.1.1.0 asks.are_set.1.1.1.0 asks.are_set.1.1.1.1.0 refl
makes words (Batch schema queries n units lanes calls) asks =
    let these = schema ∷ queries ∷ [] in
    let settings = firings_and_search n units ++ workers_and_calls lanes calls in
    made_of words name.Batch these settings n units lanes calls false (Batch schema queries n units lanes calls) asks
    asks.are_set.0 asks.are_set.1.0 asks.are_set.1.1.0 asks.are_set.1.1.1.0 (unflagged words name.Batch these settings asks refl) refl
makes words (Exec schema plan lanes calls) asks = delivering words name.Exec (schema ∷ plan ∷ []) lanes calls (Exec schema plan lanes calls) refl refl refl refl asks
makes words (Check schema query plan n) asks =
    let these = schema ∷ query ∷ plan ∷ [] in
    let settings = firings n in
    made_of words name.Check these settings n 10000 1 100000 false (Check schema query plan n) asks asks.are_set.0
    (untaken words name.Check these settings Search asks refl) (untaken words name.Check these settings Workers asks refl) (untaken words name.Check these settings Calls asks refl) (unflagged words name.Check these settings asks refl) refl
makes words (Verify schema) asks = unset words name.Verify (schema ∷ []) (Verify schema) refl refl refl refl refl refl asks
makes words (Crawl schema lanes calls) asks = delivering words name.Crawl (schema ∷ []) lanes calls (Crawl schema lanes calls) refl refl refl refl asks
makes words (Reach schema query lanes calls) asks = delivering words name.Reach (schema ∷ query ∷ []) lanes calls (Reach schema query lanes calls) refl refl refl refl asks
makes words (World size lanes) (asks, low, high) =
    let these = decimal size ∷ [] in
    let settings = workers lanes in
    made_of words name.World these settings 10000 10000 lanes 100000 false (World size lanes) asks
    (untaken words name.World these settings Firings asks refl) (untaken words name.World these settings Search asks refl) asks.are_set.0 (untaken words name.World these settings Calls asks refl) (unflagged words name.World these settings asks refl)
    (ap (option_map (λ n. World n lanes)) (size_is (decimal size) size refl low high))

-- ---- the other way round

asked : (words behind : List (List ℕ)) (which : CommandName) (items : List Item) (n units lanes calls : ℕ) (verify : Bool) (positionals : List (List ℕ)) (command : Command) → words ≡ command_word which ∷ behind → Splits which behind items →
    IsSet Firings items n → IsSet Search items units → IsSet Workers items lanes → IsSet Calls items calls → IsRaised flag.Verify items verify → positionals_of items ≡ positionals → made which positionals n units lanes calls verify ≡ Some command → IsCommand words command
asked words behind which items n units lanes calls verify positionals command first splits set searched worked capped flagged order is = go which positionals first splits order is
  where
    named : (c : Command) → c ≡ command → IsCommand words c → IsCommand words command
    named c e here = subst (IsCommand words) e here

    go : (which : CommandName) (positionals : List (List ℕ)) → words ≡ command_word which ∷ behind → Splits which behind items → positionals_of items ≡ positionals → made which positionals n units lanes calls verify ≡ Some command → IsCommand words command
    go name.Help [] first splits order is = named Help (cc) (record { behind = behind; items = items; first = first; splits = splits; in_order = order; are_set = tt })
    go name.Help (a ∷ ps) first splits order is = absurd cc
    go name.Schema [] first splits order is = absurd cc
    go name.Schema (a ∷ []) first splits order is = named (Schema a) (cc) (record { behind = behind; items = items; first = first; splits = splits; in_order = order; are_set = tt })
    go name.Schema (a ∷ b ∷ ps) first splits order is = absurd cc
    go name.Explain [] first splits order is = absurd cc
    go name.Explain (a ∷ []) first splits order is = absurd cc
    go name.Explain (a ∷ b ∷ []) first splits order is = named (Explain a b n units) (cc) (record { behind = behind; items = items; first = first; splits = splits; in_order = order; are_set = (set, (searched, tt)) })
    go name.Explain (a ∷ b ∷ c ∷ ps) first splits order is = absurd cc
    go name.Run [] first splits order is = absurd cc
    go name.Run (a ∷ []) first splits order is = absurd cc
    go name.Run (a ∷ b ∷ []) first splits order is = named (Run a b n units lanes calls verify) (cc) (record { behind = behind; items = items; first = first; splits = splits; in_order = order; are_set = (set, (searched, (worked, (capped, (flagged, tt))))) })
    go name.Run (a ∷ b ∷ c ∷ ps) first splits order is = absurd cc
    go name.Batch [] first splits order is = absurd cc
    go name.Batch (a ∷ []) first splits order is = absurd cc
    go name.Batch (a ∷ b ∷ []) first splits order is = named (Batch a b n units lanes calls) (cc) (record { behind = behind; items = items; first = first; splits = splits; in_order = order; are_set = (set, (searched, (worked, (capped, tt)))) })
    go name.Batch (a ∷ b ∷ c ∷ ps) first splits order is = absurd cc
    go name.Exec [] first splits order is = absurd cc
    go name.Exec (a ∷ []) first splits order is = absurd cc
    go name.Exec (a ∷ b ∷ []) first splits order is = named (Exec a b lanes calls) (cc) (record { behind = behind; items = items; first = first; splits = splits; in_order = order; are_set = (worked, (capped, tt)) })
    go name.Exec (a ∷ b ∷ c ∷ ps) first splits order is = absurd cc
    go name.Check [] first splits order is = absurd cc
    go name.Check (a ∷ []) first splits order is = absurd cc
    go name.Check (a ∷ b ∷ []) first splits order is = absurd cc
    go name.Check (a ∷ b ∷ c ∷ []) first splits order is = named (Check a b c n) (cc) (record { behind = behind; items = items; first = first; splits = splits; in_order = order; are_set = (set, tt) })
    go name.Check (a ∷ b ∷ c ∷ d ∷ ps) first splits order is = absurd cc
    go name.Verify [] first splits order is = absurd cc
    go name.Verify (a ∷ []) first splits order is = named (Verify a) (cc) (record { behind = behind; items = items; first = first; splits = splits; in_order = order; are_set = tt })
    go name.Verify (a ∷ b ∷ ps) first splits order is = absurd cc
    go name.Crawl [] first splits order is = absurd cc
    go name.Crawl (a ∷ []) first splits order is = named (Crawl a lanes calls) (cc) (record { behind = behind; items = items; first = first; splits = splits; in_order = order; are_set = (worked, (capped, tt)) })
    go name.Crawl (a ∷ b ∷ ps) first splits order is = absurd cc
    go name.Reach [] first splits order is = absurd cc
    go name.Reach (a ∷ []) first splits order is = absurd cc
    go name.Reach (a ∷ b ∷ []) first splits order is = named (Reach a b lanes calls) (cc) (record { behind = behind; items = items; first = first; splits = splits; in_order = order; are_set = (worked, (capped, tt)) })
    go name.Reach (a ∷ b ∷ c ∷ ps) first splits order is = absurd cc
    go name.World [] first splits order is = absurd cc
    go name.World (a ∷ []) first splits order is =
        let size = made_size a lanes command is in
        named (World size.0 lanes) size.1 (record { behind = behind; items = items; first = first; splits = splits; in_order = order ∙ ap (λ (w : List ℕ). w ∷ []) size.2; are_set = (worked, tt) }, size.3, size.4)
    go name.World (a ∷ b ∷ ps) first splits order is = absurd cc

-- ---- one command only

small : (option : OptionName) (n : ℕ) → n ≤ limit option → n < 2 ^ 64
small Firings n le = omega arith
small Search n le = omega arith
small Workers n le = omega arith
small Calls n le = omega arith

set_once : (option : OptionName) (items : List Item) (n m : ℕ) → IsSet option items n → IsSet option items m → n ≡ m
set_once option items n m (Once is le) (Once is' le') = let e : decimal n ≡ decimal m = cc in decimal_injective n m (small option n le.1) (small option m le'.1) e
set_once option items n m (Once is le) (Absent is' e) = absurd cc
set_once option items n m (Absent is e) (Once is' le) = absurd cc
set_once option items n m (Absent is e) (Absent is' e') = e ∙ sym e'

raised_once : (items : List Item) (up other : Bool) → IsRaised flag.Verify items up → IsRaised flag.Verify items other → up ≡ other
raised_once items true true is is' = refl
raised_once items true false is is' = absurd cc
raised_once items false true is is' = absurd cc
raised_once items false false is is' = refl

-- a text of a number below the option's range is no number in it
pub below_least : (option : OptionName) (text : List ℕ) (m : ℕ) → text ≡ decimal m → m ≤ limit option → m < least option → (n : ℕ) → InRange option n → text ≡ decimal n → ⊥
below_least option text m is le low n within also =
    let e : decimal m ≡ decimal n = cc in
    let same = decimal_injective m n (small option m le) (small option n within.1) e in
    let least_is = within.0 in
    omega (arith, same, low, least_is)

makes_once : (words : List (List ℕ)) (command other : Command) → Makes words command → Makes words other → command ≡ other
makes_once words command other a b =
    let word : command_word a.name ≡ command_word b.name = cc in
    let which = same_command a.name b.name word in
    let behind : b.behind ≡ a.behind = cc in
    let there : Splits b.name a.behind b.items = subst (λ (ws : List (List ℕ)). Splits b.name ws b.items) behind b.splits in
    let here : Splits a.name a.behind b.items = subst (λ (n : CommandName). Splits n a.behind b.items) (sym which) there in
    let items = splits_once a.name a.behind a.items b.items a.splits here in
    let number = set_once Firings a.items a.number b.number a.set (subst (λ (is : List Item). IsSet Firings is b.number) (sym items) b.set) in
    let units = set_once Search a.items a.units b.units a.set_search (subst (λ (is : List Item). IsSet Search is b.units) (sym items) b.set_search) in
    let lanes = set_once Workers a.items a.lanes b.lanes a.set_workers (subst (λ (is : List Item). IsSet Workers is b.lanes) (sym items) b.set_workers) in
    let calls = set_once Calls a.items a.calls b.calls a.set_calls (subst (λ (is : List Item). IsSet Calls is b.calls) (sym items) b.set_calls) in
    let verify = raised_once a.items a.verify b.verify a.set_verify (subst (λ (is : List Item). IsRaised flag.Verify is b.verify) (sym items) b.set_verify) in
    let e : made a.name (positionals_of a.items) a.number a.units a.lanes a.calls a.verify ≡ made b.name (positionals_of b.items) b.number b.units b.lanes b.calls b.verify = cc in
    cc

pub one_command : (words : List (List ℕ)) (command other : Command) → IsCommand words command → IsCommand words other → command ≡ other
one_command words command other here there = makes_once words command other (makes words command here) (makes words other there)

-- ---- what the calls answer

raised_few : (items : List Item) (up : Bool) → IsRaised flag.Verify items up → times_raised flag.Verify items ≤ 1
raised_few items true is = omega (arith, is)
raised_few items false is = omega (arith, is)

pub no_name : (words : List (List ℕ)) (word : List ℕ) (command : Command) → 1 ≤ length words → word ≡ get_or words 0 word → ((which : CommandName) → word ≡ command_word which → ⊥) → IsCommand words command → ⊥
no_name words word command some is none asks =
    let m = makes words command asks in
    let all = front_and_rest words word some is in
    none m.name (cc)

-- the number that the arguments have
set_number : (option : OptionName) (items : List Item) (number : Option ℕ) → IsGiven option items number → IsSet option items (unwrap_or number (default_number option))
set_number option items None given = Absent given refl
set_number option items (Some n) given = Once given.0 given.1

pub is_command : (words behind : List (List ℕ)) (word : List ℕ) (which : CommandName) (arguments : Arguments) (r : Option Coded) → words ≡ word ∷ behind → word ≡ command_word which → AreArguments which behind arguments → option_map seen_as r ≡ made which (words_of arguments.positionals) (number_of Firings arguments) (number_of Search arguments) (number_of Workers arguments) (number_of Calls arguments) arguments.verify → IfSome r (λ command. IsCommand words (seen_as command))
is_command words behind word which arguments None all is are e = tt
is_command words behind word which arguments (Some command) all is are e =
    asked words behind which are.items (number_of Firings arguments) (number_of Search arguments) (number_of Workers arguments) (number_of Calls arguments) arguments.verify (words_of arguments.positionals) (seen_as command) (all ∙ ap (λ (w : List ℕ). w ∷ behind) is) are.splits
    (set_number Firings are.items (given_number Firings arguments) (are.give.are_given Firings))
    (set_number Search are.items (given_number Search arguments) (are.give.are_given Search))
    (set_number Workers are.items (given_number Workers arguments) (are.give.are_given Workers))
    (set_number Calls are.items (given_number Calls arguments) (are.give.are_given Calls)) (are.give.are_raised flag.Verify) are.give.in_order (sym e)

few_positionals : (which : CommandName) (positionals : List (List ℕ)) (n units lanes calls : ℕ) (verify : Bool) (command : Command) → made which positionals n units lanes calls verify ≡ Some command → length positionals ≤ 3
few_positionals which [] n units lanes calls verify command is = omega arith
few_positionals which (a ∷ []) n units lanes calls verify command is = omega arith
few_positionals which (a ∷ b ∷ []) n units lanes calls verify command is = omega arith
few_positionals which (a ∷ b ∷ c ∷ []) n units lanes calls verify command is = omega arith
few_positionals name.Help (a ∷ b ∷ c ∷ d ∷ ps) n units lanes calls verify command is = absurd cc
few_positionals name.Schema (a ∷ b ∷ c ∷ d ∷ ps) n units lanes calls verify command is = absurd cc
few_positionals name.Explain (a ∷ b ∷ c ∷ d ∷ ps) n units lanes calls verify command is = absurd cc
few_positionals name.Run (a ∷ b ∷ c ∷ d ∷ ps) n units lanes calls verify command is = absurd cc
few_positionals name.Batch (a ∷ b ∷ c ∷ d ∷ ps) n units lanes calls verify command is = absurd cc
few_positionals name.Exec (a ∷ b ∷ c ∷ d ∷ ps) n units lanes calls verify command is = absurd cc
few_positionals name.Check (a ∷ b ∷ c ∷ d ∷ ps) n units lanes calls verify command is = absurd cc
few_positionals name.Verify (a ∷ b ∷ c ∷ d ∷ ps) n units lanes calls verify command is = absurd cc
few_positionals name.Crawl (a ∷ b ∷ c ∷ d ∷ ps) n units lanes calls verify command is = absurd cc
few_positionals name.Reach (a ∷ b ∷ c ∷ d ∷ ps) n units lanes calls verify command is = absurd cc
few_positionals name.World (a ∷ b ∷ c ∷ d ∷ ps) n units lanes calls verify command is = absurd cc

-- the command's word says which command it is
module _ (words behind : List (List ℕ)) (word : List ℕ) (which : CommandName) (all : words ≡ word ∷ behind) (is : word ≡ command_word which) where
  items_of : (command : Command) (m : Makes words command) → (m.name ≡ which) × Splits which behind m.items
  items_of command m =
      let word' : command_word m.name ≡ command_word which = cc in
      let same = same_command m.name which word' in
      let rest : m.behind ≡ behind = cc in
      let here : Splits m.name behind m.items = subst (λ (ws : List (List ℕ)). Splits m.name ws m.items) rest m.splits in
      (same, subst (λ (n : CommandName). Splits n behind m.items) same here)

  pub no_arguments : (command : Command) → ((items : List Item) → Splits which behind items → MayBe items → ⊥) → IsCommand words command → ⊥
  no_arguments command none asks =
      let m = makes words command asks in
      let here = items_of command m in
      none m.items here.1 (record { few = few_positionals m.name (positionals_of m.items) m.number m.units m.lanes m.calls m.verify command m.is_made; settable = set m; once = once m })
    where
      set : (m : Makes words command) (option : OptionName) → (n : ℕ) × IsSet option m.items n
      set m Firings = (m.number, m.set)
      set m Search = (m.units, m.set_search)
      set m Workers = (m.lanes, m.set_workers)
      set m Calls = (m.calls, m.set_calls)

      once : (m : Makes words command) (which : FlagName) → times_raised which m.items ≤ 1
      once m flag.Verify = raised_few m.items m.verify m.set_verify

  pub not_made : (arguments : Arguments) (r : Option Coded) → AreArguments which behind arguments → option_map seen_as r ≡ made which (words_of arguments.positionals) (number_of Firings arguments) (number_of Search arguments) (number_of Workers arguments) (number_of Calls arguments) arguments.verify → IfNone r ((command : Command) → IsCommand words command → ⊥)
  not_made arguments (Some coded) are e = tt
  not_made arguments None are e = λ command asks.
      let m = makes words command asks in
      let here = items_of command m in
      let items = splits_once which behind m.items are.items here.1 are.splits in
      let number = set_once Firings are.items m.number (number_of Firings arguments) (subst (λ (is : List Item). IsSet Firings is m.number) items m.set) (set_number Firings are.items (given_number Firings arguments) (are.give.are_given Firings)) in
      let units = set_once Search are.items m.units (number_of Search arguments) (subst (λ (is : List Item). IsSet Search is m.units) items m.set_search) (set_number Search are.items (given_number Search arguments) (are.give.are_given Search)) in
      let lanes = set_once Workers are.items m.lanes (number_of Workers arguments) (subst (λ (is : List Item). IsSet Workers is m.lanes) items m.set_workers) (set_number Workers are.items (given_number Workers arguments) (are.give.are_given Workers)) in
      let calls = set_once Calls are.items m.calls (number_of Calls arguments) (subst (λ (is : List Item). IsSet Calls is m.calls) items m.set_calls) (set_number Calls are.items (given_number Calls arguments) (are.give.are_given Calls)) in
      let verify = raised_once are.items m.verify arguments.verify (subst (λ (is : List Item). IsRaised flag.Verify is m.verify) items m.set_verify) (are.give.are_raised flag.Verify) in
      let same : made m.name (positionals_of m.items) m.number m.units m.lanes m.calls m.verify ≡ made which (positionals_of are.items) (number_of Firings arguments) (number_of Search arguments) (number_of Workers arguments) (number_of Calls arguments) arguments.verify = let n = here.0 in cc in
      let order = ap (λ (ps : List (List ℕ)). made which ps (number_of Firings arguments) (number_of Search arguments) (number_of Workers arguments) (number_of Calls arguments) arguments.verify) are.give.in_order in
      let made' = m.is_made in
      absurd cc

pub first_word : (text word : List ℕ) → text ≡ word → ((which : CommandName) → text ≡ command_word which → ⊥) → (which : CommandName) → word ≡ command_word which → ⊥
first_word text word same none which e = none which (same ∙ e)
