-- Words as items: there is one way at most.
use Rattle.std.proofs.Common.{◌≡◌, ℕ, ◌≤◌, Bool, true, false, List, [], ◌∷◌, ◌++◌, length, get_or, take, drop, ◌-◌, ◌+◌, None, Some, refl, sym, ap, subst, ◌∙◌, inl, inr, arith}
use Rattle.std.specs.Prelude.{◌⊎◌, codes, if◌then◌else◌}
use Rattle.std.proofs.lemmas.List.{take_rest}
use Rattle.command_words.specs.Table.{option_word, same_option, takes, flag_word, same_flag, takes_flag}
use Rattle.command_words.specs.Splits.{Item, Positional, Given, Raised, IsPositional, Begins, InFront, InTwoWords, InOneWord, AsFlag, Splits, End, More, texts_of, times_raised}
use Rattle.command_words.specs.Cuts.{before_equals, behind_equals}
use Rattle.command_words.specs.declared.table.CommandName.{CommandName}
use Rattle.command_words.specs.declared.table.OptionName.{OptionName}
use Rattle.command_words.specs.declared.table.OptionName.TheVariants.{Firings, Search, Workers, Calls}
use Rattle.command_words.specs.declared.table.FlagName.{FlagName}
use Rattle.command_words.specs.declared.table.FlagName.TheVariants as flag
use Rattle.command_words.proofs.Cutting.{cut, uncut}

-- ---- options by their words

before_word : (option : OptionName) → before_equals (option_word option) ≡ option_word option
before_word Firings = refl
before_word Search = refl
before_word Workers = refl
before_word Calls = refl

behind_word : (option : OptionName) → behind_equals (option_word option) ≡ None
behind_word Firings = refl
behind_word Search = refl
behind_word Workers = refl
behind_word Calls = refl

before_setting : (option : OptionName) (value : List ℕ) → before_equals (option_word option ++ 61 ∷ value) ≡ option_word option
before_setting Firings value = refl
before_setting Search value = refl
before_setting Workers value = refl
before_setting Calls value = refl

behind_setting : (option : OptionName) (value : List ℕ) → behind_equals (option_word option ++ 61 ∷ value) ≡ Some value
behind_setting Firings value = refl
behind_setting Search value = refl
behind_setting Workers value = refl
behind_setting Calls value = refl

-- an option's word is its own
pub same_word : (option other : OptionName) → option_word option ≡ option_word other → option ≡ other
same_word Firings Firings e = refl
same_word Search Search e = refl
same_word Firings Search e = absurd cc
same_word Search Firings e = absurd cc
same_word Workers Workers e = refl
same_word Workers Firings e = let first : 119 ≡ 102 = ap (λ (word : List ℕ). get_or word 0 0) e in absurd (omega (arith, first))
same_word Workers Search e = absurd cc
same_word Firings Workers e = let first : 102 ≡ 119 = ap (λ (word : List ℕ). get_or word 0 0) e in absurd (omega (arith, first))
same_word Search Workers e = absurd cc
same_word Calls Calls e = refl
same_word Calls Firings e = absurd cc
same_word Calls Search e = absurd cc
same_word Calls Workers e = absurd cc
same_word Firings Calls e = absurd cc
same_word Search Calls e = absurd cc
same_word Workers Calls e = absurd cc

pub same_options : (option other : OptionName) → same_option option other ≡ true → option ≡ other
same_options Firings Firings e = refl
same_options Search Search e = refl
same_options Firings Search e = absurd cc
same_options Search Firings e = absurd cc
same_options Workers Workers e = refl
same_options Workers Firings e = absurd cc
same_options Workers Search e = absurd cc
same_options Firings Workers e = absurd cc
same_options Search Workers e = absurd cc
same_options Calls Calls e = refl
same_options Calls Firings e = absurd cc
same_options Calls Search e = absurd cc
same_options Calls Workers e = absurd cc
same_options Firings Calls e = absurd cc
same_options Search Calls e = absurd cc
same_options Workers Calls e = absurd cc

pub same_itself : (option : OptionName) → same_option option option ≡ true
same_itself Firings = refl
same_itself Search = refl
same_itself Workers = refl
same_itself Calls = refl

-- ---- flags by their words

same_flag_word : (one other : FlagName) → flag_word one ≡ flag_word other → one ≡ other
same_flag_word flag.Verify flag.Verify e = refl

pub same_flags : (one other : FlagName) → same_flag one other ≡ true → one ≡ other
same_flags flag.Verify flag.Verify e = refl

-- no word of an option is a flag's
no_flag_word : (option : OptionName) (which : FlagName) → option_word option ≡ flag_word which → ⊥
no_flag_word Firings flag.Verify e = let first : 102 ≡ 118 = ap (λ (word : List ℕ). get_or word 0 0) e in omega (arith, first)
no_flag_word Search flag.Verify e = let first : 115 ≡ 118 = ap (λ (word : List ℕ). get_or word 0 0) e in omega (arith, first)
no_flag_word Workers flag.Verify e = let first : 119 ≡ 118 = ap (λ (word : List ℕ). get_or word 0 0) e in omega (arith, first)
no_flag_word Calls flag.Verify e = let first : 99 ≡ 118 = ap (λ (word : List ℕ). get_or word 0 0) e in omega (arith, first)

before_flag : (which : FlagName) → before_equals (flag_word which) ≡ flag_word which
before_flag flag.Verify = refl

no_flag_setting : (option : OptionName) (value : List ℕ) (which : FlagName) → option_word option ++ 61 ∷ value ≡ flag_word which → ⊥
no_flag_setting option value which e = no_flag_word option which (sym (before_setting option value) ∙ ap before_equals e ∙ before_flag which)

dashed_setting : (option : OptionName) (value : List ℕ) → codes "--" ++ option_word option ++ codes "=" ++ value ≡ 45 ∷ 45 ∷ (option_word option ++ 61 ∷ value)
dashed_setting Firings value = refl
dashed_setting Search value = refl
dashed_setting Workers value = refl
dashed_setting Calls value = refl

-- ---- how words begin, by equations

-- the words are an option, whose dashed word goes on so
data Opens (name : CommandName) (option : OptionName) (value : List ℕ) (words rest : List (List ℕ)) : Type 0 where
  two : words ≡ (45 ∷ 45 ∷ option_word option) ∷ value ∷ rest → Opens name option value words rest
  one : words ≡ (45 ∷ 45 ∷ (option_word option ++ 61 ∷ value)) ∷ rest → Opens name option value words rest

data Begun (name : CommandName) (words : List (List ℕ)) (item : Item) (rest : List (List ℕ)) : Type 0 where
  front : (word : List ℕ) → words ≡ word ∷ rest → item ≡ Positional word → IsPositional word → Begun name words item rest
  flag_front : (which : FlagName) → words ≡ (45 ∷ 45 ∷ flag_word which) ∷ rest → item ≡ Raised which → takes_flag name which ≡ true → Begun name words item rest
  option_front : (option : OptionName) (value : List ℕ) → item ≡ Given option value → takes name option ≡ true → Opens name option value words rest → Begun name words item rest

begun : (name : CommandName) (words : List (List ℕ)) (item : Item) (rest : List (List ℕ)) → Begins name words item rest → Begun name words item rest
begun name words item rest (InFront word after is) = front word refl refl is
begun name words item rest (AsFlag which after taken) = flag_front which refl refl taken
begun name words item rest (InTwoWords option value after taken) = option_front option value refl taken (two refl)
begun name words item rest (InOneWord option value after taken) = option_front option value refl taken (one (ap (λ (w : List ℕ). w ∷ after) (dashed_setting option value)))

-- nothing begins no words
pub none_begins : (name : CommandName) (words : List (List ℕ)) (item : Item) (rest : List (List ℕ)) → Begins name words item rest → words ≡ [] → ⊥
none_begins name words item rest begins e = go (begun name words item rest begins)
  where
    opened : (option : OptionName) (value : List ℕ) → Opens name option value words rest → ⊥
    opened option value (two is) = absurd cc
    opened option value (one is) = absurd cc

    go : Begun name words item rest → ⊥
    go (front word is same positional) = absurd cc
    go (flag_front which is same taken) = absurd cc
    go (option_front option value same taken opens) = opened option value opens

-- a positional begins with no dash
no_dash : (word tail : List ℕ) → word ≡ 45 ∷ tail → IsPositional word → ⊥
no_dash [] tail e is = is
no_dash (b ∷ bs) tail e is = is cc

-- a word behind its dashes that is no flag's: which option it names, and with which text
pub record Named (name : CommandName) (dashed : List ℕ) (behind : List (List ℕ)) (item : Item) (rest : List (List ℕ)) : Type 0 where
  pub option : OptionName
  pub value : List ℕ
  pub same : item ≡ Given option value
  pub taken : takes name option ≡ true
  pub word : before_equals dashed ≡ option_word option
  pub text : ((behind_equals dashed ≡ None) × (behind ≡ value ∷ rest)) ⊎ ((behind_equals dashed ≡ Some value) × (behind ≡ rest))

pub named : (name : CommandName) (dashed : List ℕ) (behind : List (List ℕ)) (item : Item) (rest : List (List ℕ)) → ((which : FlagName) → dashed ≡ flag_word which → ⊥) → Begins name ((45 ∷ 45 ∷ dashed) ∷ behind) item rest → Named name dashed behind item rest
named name dashed behind item rest no_flag begins = go (begun name ((45 ∷ 45 ∷ dashed) ∷ behind) item rest begins)
  where
    opened : (option : OptionName) (value : List ℕ) → item ≡ Given option value → takes name option ≡ true → Opens name option value ((45 ∷ 45 ∷ dashed) ∷ behind) rest → Named name dashed behind item rest
    opened option value same taken (two is) =
        let word : dashed ≡ option_word option = cc in
        record {
          option = option;
          value = value;
          same = same;
          taken = taken;
          word = ap before_equals word ∙ before_word option;
          text = inl (ap behind_equals word ∙ behind_word option, cc);
        }
    opened option value same taken (one is) =
        let word : dashed ≡ option_word option ++ 61 ∷ value = cc in
        record {
          option = option;
          value = value;
          same = same;
          taken = taken;
          word = ap before_equals word ∙ before_setting option value;
          text = inr (ap behind_equals word ∙ behind_setting option value, cc);
        }

    go : Begun name ((45 ∷ 45 ∷ dashed) ∷ behind) item rest → Named name dashed behind item rest
    go (front word is same positional) = absurd (no_dash word (45 ∷ dashed) (cc) positional)
    go (flag_front which is same taken) = absurd (no_flag which (cc))
    go (option_front option value same taken opens) = opened option value same taken opens

-- an option that the command does not take begins no words
pub refused_option : (name : CommandName) (option : OptionName) (dashed word : List ℕ) (behind : List (List ℕ)) → ((which : FlagName) → dashed ≡ flag_word which → ⊥) → word ≡ before_equals dashed → word ≡ option_word option → false ≡ takes name option → (item : Item) (rest : List (List ℕ)) → Begins name ((45 ∷ 45 ∷ dashed) ∷ behind) item rest → ⊥
refused_option name option dashed word behind no_flag before is off item rest begins =
    let n = named name dashed behind item rest no_flag begins in
    let which : option ≡ n.option = same_word option n.option (sym is ∙ before ∙ n.word) in
    let on : takes name option ≡ true = ap (takes name) which ∙ n.taken in
    absurd cc

-- ---- where an item begins words

pub begins_two : (name : CommandName) (option : OptionName) (dashed value : List ℕ) (rest : List (List ℕ)) → before_equals dashed ≡ option_word option → behind_equals dashed ≡ None → takes name option ≡ true → Begins name ((45 ∷ 45 ∷ dashed) ∷ value ∷ rest) (Given option value) rest
begins_two name option dashed value rest word none taken =
    let is : option_word option ≡ dashed = sym word ∙ uncut dashed none in
    subst (λ (w : List ℕ). Begins name ((45 ∷ 45 ∷ w) ∷ value ∷ rest) (Given option value) rest) is (InTwoWords option value rest taken)

pub begins_one : (name : CommandName) (option : OptionName) (dashed value : List ℕ) (rest : List (List ℕ)) → before_equals dashed ≡ option_word option → behind_equals dashed ≡ Some value → takes name option ≡ true → Begins name ((45 ∷ 45 ∷ dashed) ∷ rest) (Given option value) rest
begins_one name option dashed value rest word some taken =
    let is : option_word option ++ 61 ∷ value ≡ dashed = ap (λ (w : List ℕ). w ++ 61 ∷ value) (sym word) ∙ cut dashed value some in
    subst (λ (w : List ℕ). Begins name (w ∷ rest) (Given option value) rest) (dashed_setting option value ∙ ap (λ (w : List ℕ). 45 ∷ 45 ∷ w) is) (InOneWord option value rest taken)

pub begins_flag : (name : CommandName) (which : FlagName) (dashed : List ℕ) (rest : List (List ℕ)) → dashed ≡ flag_word which → true ≡ takes_flag name which → Begins name ((45 ∷ 45 ∷ dashed) ∷ rest) (Raised which) rest
begins_flag name which dashed rest word taken = subst (λ (w : List ℕ). Begins name ((45 ∷ 45 ∷ w) ∷ rest) (Raised which) rest) (sym word) (AsFlag which rest (sym taken))

-- a flag that the command does not take begins no words
pub refused_flag : (name : CommandName) (which : FlagName) (dashed : List ℕ) (behind : List (List ℕ)) → dashed ≡ flag_word which → false ≡ takes_flag name which → (item : Item) (rest : List (List ℕ)) → Begins name ((45 ∷ 45 ∷ dashed) ∷ behind) item rest → ⊥
refused_flag name which dashed behind word off item rest begins = go (begun name ((45 ∷ 45 ∷ dashed) ∷ behind) item rest begins)
  where
    go : Begun name ((45 ∷ 45 ∷ dashed) ∷ behind) item rest → ⊥
    go (front these is same positional) = no_dash these (45 ∷ dashed) (cc) positional
    go (flag_front other is same taken) =
        let e : flag_word which ≡ flag_word other = cc in
        let there : takes_flag name which ≡ true = ap (takes_flag name) (same_flag_word which other e) ∙ taken in
        absurd cc
    go (option_front option value same taken (two is)) = no_flag_word option which (cc)
    go (option_front option value same taken (one is)) = no_flag_setting option value which (cc)

-- words are the first, and the others
pub front_and_rest : (words : List (List ℕ)) (word : List ℕ) → 1 ≤ length words → word ≡ get_or words 0 word → words ≡ word ∷ take (length words - 1) (drop 1 words)
front_and_rest [] word some is = absurd (omega arith)
front_and_rest (w ∷ ws) word some is = ap (λ (v : List ℕ). v ∷ ws) (sym is) ∙ ap (λ (vs : List (List ℕ)). word ∷ vs) (sym (take_rest (w ∷ ws) 1))

pub begins_behind : (name : CommandName) (option : OptionName) (dashed : List ℕ) (rest : List (List ℕ)) (first value : List ℕ) → 1 ≤ length rest → first ≡ get_or rest 0 first → value ≡ first → before_equals dashed ≡ option_word option → behind_equals dashed ≡ None → takes name option ≡ true →
    Begins name ((45 ∷ 45 ∷ dashed) ∷ rest) (Given option value) (take (length rest - 1) (drop 1 rest))
begins_behind name option dashed rest first value some is same word none taken =
    let after = take (length rest - 1) (drop 1 rest) in
    let all : value ∷ after ≡ rest = ap (λ (w : List ℕ). w ∷ after) same ∙ sym (front_and_rest rest first some is) in
    subst (λ (ws : List (List ℕ)). Begins name ((45 ∷ 45 ∷ dashed) ∷ ws) (Given option value) after) all (begins_two name option dashed value after word none taken)

-- a first byte that is no dash
first_byte : (word : List ℕ) → 1 ≤ length word → (get_or word 0 0 ≡ 45 → ⊥) → IsPositional word
first_byte [] some other = absurd (omega arith)
first_byte (b ∷ bs) some other = other

pub begins_positional : (name : CommandName) (words : List (List ℕ)) (word bytes : List ℕ) → 1 ≤ length words → word ≡ get_or words 0 word → bytes ≡ word → 1 ≤ length bytes → (get_or bytes 0 0 ≡ 45 → ⊥) → Begins name words (Positional word) (take (length words - 1) (drop 1 words))
begins_positional name words word bytes some is same long other =
    let after = take (length words - 1) (drop 1 words) in
    let positional : IsPositional word = subst IsPositional same (first_byte bytes long other) in
    subst (λ (ws : List (List ℕ)). Begins name ws (Positional word) after) (sym (front_and_rest words word some is)) (InFront word after positional)

-- ---- one item only

pub first_once : (name : CommandName) (words : List (List ℕ)) (i j : Item) (r s : List (List ℕ)) → Begins name words i r → Begins name words j s → (i ≡ j) × (r ≡ s)
first_once name words i j r s (InFront word after is) other = go (begun name (word ∷ after) j s other)
  where
    go : Begun name (word ∷ after) j s → (Positional word ≡ j) × (after ≡ s)
    go (front word' e same positional) = let w : word ≡ word' = cc in (ap Positional w ∙ sym same, cc)
    go (flag_front which e same taken) = absurd (no_dash word (45 ∷ flag_word which) (cc) is)
    go (option_front option value same taken (two e)) = absurd (no_dash word (45 ∷ option_word option) (cc) is)
    go (option_front option value same taken (one e)) = absurd (no_dash word (45 ∷ (option_word option ++ 61 ∷ value)) (cc) is)
first_once name words i j r s (InTwoWords option value after taken) other = go (named name (option_word option) (value ∷ after) j s (no_flag_word option) other)
  where
    go : Named name (option_word option) (value ∷ after) j s → (Given option value ≡ j) × (after ≡ s)
    go n =
        let which : option ≡ n.option = same_word option n.option (sym (before_word option) ∙ n.word) in
        let none = behind_word option in
        elim n.text [ inl e ↦ (let v : value ≡ n.value = cc in cc, cc) | inr e ↦ absurd cc ]
first_once name words i j r s (InOneWord option value after taken) other =
    go (named name (option_word option ++ 61 ∷ value) after j s (no_flag_setting option value) (subst (λ (w : List ℕ). Begins name (w ∷ after) j s) (dashed_setting option value) other))
  where
    go : Named name (option_word option ++ 61 ∷ value) after j s → (Given option value ≡ j) × (after ≡ s)
    go n =
        let which : option ≡ n.option = same_word option n.option (sym (before_setting option value) ∙ n.word) in
        let some = behind_setting option value in
        elim n.text [ inl e ↦ absurd cc | inr e ↦ (let v : value ≡ n.value = cc in cc, cc) ]
first_once name words i j r s (AsFlag which after taken) other = go (begun name ((codes "--" ++ flag_word which) ∷ after) j s other)
  where
    go : Begun name ((codes "--" ++ flag_word which) ∷ after) j s → (Raised which ≡ j) × (after ≡ s)
    go (front word e same positional) = absurd (no_dash word (45 ∷ flag_word which) (cc) positional)
    go (flag_front which' e same taken') = let f = same_flag_word which which' (cc) in (ap Raised f ∙ sym same, cc)
    go (option_front option value same taken' (two e)) = absurd (no_flag_word option which (cc))
    go (option_front option value same taken' (one e)) = absurd (no_flag_setting option value which (cc))

-- ---- all items

-- words are no item, or one and others behind it
pub data Parts (name : CommandName) (words : List (List ℕ)) (items : List Item) : Type 0 where
  ended : words ≡ [] → items ≡ [] → Parts name words items
  more : (item : Item) (rest : List (List ℕ)) (others : List Item) → items ≡ item ∷ others → Begins name words item rest → Splits name rest others → Parts name words items

pub parts : (name : CommandName) (words : List (List ℕ)) (items : List Item) → Splits name words items → Parts name words items
parts name words items End = ended refl refl
parts name words items (More these item rest others begins splits) = more item rest others refl begins splits

none_splits : (name : CommandName) (items : List Item) → Parts name [] items → [] ≡ items
none_splits name items (ended e is) = sym is
none_splits name items (more item rest others is begins splits) = absurd (none_begins name [] item rest begins refl)

more_splits : (name : CommandName) (words : List (List ℕ)) (item : Item) (rest : List (List ℕ)) (others items : List Item) → Begins name words item rest → ((is : List Item) → Splits name rest is → others ≡ is) → Parts name words items → item ∷ others ≡ items
more_splits name words item rest others items begins further (ended e is) = absurd (none_begins name words item rest begins e)
more_splits name words item rest others items begins further (more item' rest' others' is begins' splits') =
    let same = first_once name words item item' rest rest' begins begins' in
    let tail = further others' (subst (λ (ws : List (List ℕ)). Splits name ws others') (sym same.1) splits') in
    let front = same.0 in
    cc

pub splits_once : (name : CommandName) (words : List (List ℕ)) (items others : List Item) → Splits name words items → Splits name words others → items ≡ others
splits_once name words items others End other = none_splits name others (parts name [] others other)
splits_once name words items others (More these item rest behind begins splits) other =
    more_splits name these item rest behind others begins (λ is more. splits_once name rest behind is splits more) (parts name these others other)

-- a command's items give no option that it does not take
other_text : (name : CommandName) (option other : OptionName) (text : List ℕ) (items : List Item) → takes name option ≡ false → takes name other ≡ true → texts_of option items ≡ [] → (t : Bool) → same_option option other ≡ t → (if t then text ∷ texts_of option items else texts_of option items) ≡ []
other_text name option other text items off on none true same = let is : option ≡ other = same_options option other same in let there : takes name option ≡ true = ap (takes name) is ∙ on in absurd cc
other_text name option other text items off on none false same = none

gives_none : (name : CommandName) (option : OptionName) (words : List (List ℕ)) (item : Item) (rest : List (List ℕ)) (items : List Item) → takes name option ≡ false → Begins name words item rest → texts_of option items ≡ [] → texts_of option (item ∷ items) ≡ []
gives_none name option words item rest items off (InFront word after is) none = none
gives_none name option words item rest items off (AsFlag which after taken) none = none
gives_none name option words item rest items off (InTwoWords other value after taken) none = other_text name option other value items off taken none (same_option option other) refl
gives_none name option words item rest items off (InOneWord other value after taken) none = other_text name option other value items off taken none (same_option option other) refl

pub not_taken : (name : CommandName) (option : OptionName) (words : List (List ℕ)) (items : List Item) → takes name option ≡ false → Splits name words items → texts_of option items ≡ []
not_taken name option words items off End = refl
not_taken name option words items off (More these item rest others begins splits) = gives_none name option these item rest others off begins (not_taken name option rest others off splits)

-- nor do they raise a flag that it does not take
other_flag : (name : CommandName) (which other : FlagName) (n : ℕ) → takes_flag name which ≡ false → takes_flag name other ≡ true → n ≡ 0 → (t : Bool) → same_flag which other ≡ t → (if t then 1 else 0) + n ≡ 0
other_flag name which other n off on none true same = let is : which ≡ other = same_flags which other same in let there : takes_flag name which ≡ true = ap (takes_flag name) is ∙ on in absurd cc
other_flag name which other n off on none false same = omega (arith, none)

raises_none : (name : CommandName) (which : FlagName) (words : List (List ℕ)) (item : Item) (rest : List (List ℕ)) (items : List Item) → takes_flag name which ≡ false → Begins name words item rest → times_raised which items ≡ 0 → times_raised which (item ∷ items) ≡ 0
raises_none name which words item rest items off (InFront word after is) none = none
raises_none name which words item rest items off (InTwoWords other value after taken) none = none
raises_none name which words item rest items off (InOneWord other value after taken) none = none
raises_none name which words item rest items off (AsFlag other after taken) none = other_flag name which other (times_raised which items) off taken none (same_flag which other) refl

pub not_raised : (name : CommandName) (which : FlagName) (words : List (List ℕ)) (items : List Item) → takes_flag name which ≡ false → Splits name words items → times_raised which items ≡ 0
not_raised name which words items off End = refl
not_raised name which words items off (More these item rest others begins splits) = raises_none name which these item rest others off begins (not_raised name which rest others off splits)
