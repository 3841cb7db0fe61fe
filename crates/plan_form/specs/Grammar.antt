-- The grammar of plan texts: the form of each line, the plan that a text is, and the first line that does not fit.
use Rattle.std.specs.Prelude.{◌≡◌, ◌⊎◌, ◌++◌, ◌+◌, ℕ, codes, flat_map, map, Bool, nat_eq, Option, None, Some, Result, Ok, Err, List, [], ◌∷◌, length}
use Rattle.std.specs.List.{AllZip}
use Rattle.std.specs.Fmt.{decimal}
use Rattle.std.specs.Str.{IsUtf8}
use Rattle.std.specs.Cmp.Lexicographic.{pointwise}
use Rattle.pq_text.specs.declared.lexeme.Lexeme.{Lexeme}
use Rattle.pq_text.specs.declared.lexeme.Line.{Line}
use Rattle.pq_text.specs.declared.lexeme.TextLines.{TextLines}
use Rattle.pq_text.specs.Utf8.{IsFirstBad}
use Rattle.pq_text.specs.Lines.{AreLines, number_at}
use Rattle.pq_text.specs.Forms.{Slot, Key, Mark, Name, Value, Digits, Takes, list_form}
use Rattle.meaning.specs.declared.types.Place.{Place}
use Rattle.meaning.specs.declared.types.Place.TheVariants.{Const, Col, New}
use Rattle.meaning.specs.declared.types.Out.{Out}
use Rattle.meaning.specs.declared.types.Out.TheVariants.{Const as Fixed, Col as Made}
use Rattle.meaning.specs.declared.types.Step.{Step}
use Rattle.meaning.specs.declared.types.Branch.{Branch}
use Rattle.meaning.specs.declared.types.Plan.{Plan}
use Rattle.plan_form.specs.declared.fault.PlanReadFault.{PlanReadFault}
use Rattle.plan_form.specs.declared.fault.PlanReadFault.TheVariants.{NoMemory, NotUtf8, Line as LineFault}
use Rattle.plan_form.specs.Fitting.{IsWritable}

-- ---- lines

-- the digits of the number, without leading zeros
abbrev pub is_decimal : ℕ → List ℕ → Bool
is_decimal n digits = pointwise nat_eq digits (decimal n)

-- $ Number
abbrev pub column_form : ℕ → List Slot
column_form k = Mark (codes "$") ∷ Digits (is_decimal k) ∷ []

-- VALUE, $ Number or new
abbrev pub place_form : Place → List Slot
place_form (Const c) = Value c ∷ []
place_form (Col k) = column_form k
place_form New = Key (codes "new") ∷ []

-- VALUE or $ Number
abbrev pub out_form : Out → List Slot
out_form (Fixed c) = Value c ∷ []
out_form (Made k) = column_form k

-- plan Number
abbrev pub opening_form : ℕ → List Slot
opening_form width = Key (codes "plan") ∷ Digits (is_decimal width) ∷ []

-- access NAME ( PLACE , .. )
abbrev pub access_form : Step → List Slot
access_form step = Key (codes "access") ∷ Name step.method ∷ Mark (codes "(") ∷ (list_form place_form step.places ++ Mark (codes ")") ∷ [])

-- output OUT , ..
abbrev pub output_form : List Out → List Slot
output_form outs = Key (codes "output") ∷ list_form out_form outs

-- the line branch, the access lines and the output line
abbrev pub branch_forms : Branch → List (List Slot)
branch_forms branch = (Key (codes "branch") ∷ []) ∷ (map access_form branch.steps ++ output_form branch.output ∷ [])

-- the opening line, the lines of each branch, and the line end
abbrev pub plan_forms : Plan → List (List Slot)
plan_forms plan = opening_form plan.width ∷ (flat_map branch_forms plan.branches ++ (Key (codes "end") ∷ []) ∷ [])

-- ---- plans

-- The tokens of a line have the form, and none is left.
abbrev pub IsOfForm : List Lexeme → List Slot → Type 0
IsOfForm tokens form = Takes tokens form []

-- The lines are those of the plan, one for each form.
abbrev pub ArePlanLines : List (List Lexeme) → Plan → Type 0
ArePlanLines lines plan = IsWritable plan × AllZip IsOfForm lines (plan_forms plan)

-- a line in front of others, but for one without tokens
abbrev pub behind_tokens : List Lexeme → List (List Lexeme) → List (List Lexeme)
behind_tokens [] others = others
behind_tokens (t ∷ ts) others = (t ∷ ts) ∷ others

-- the lines that have tokens
abbrev pub written : List Line → List (List Lexeme)
written [] = []
written (line ∷ lines) = behind_tokens line.tokens (written lines)

-- The text says the plan: its lines that have tokens are the plan's lines.
abbrev pub SaysPlan : List ℕ → Plan → Type 0
SaysPlan text plan = (lines : List Line) × AreLines text (record { whole = lines; broken = None }) × ArePlanLines (written lines) plan

-- The bytes are UTF-8, and the text that they are says the plan.
abbrev pub IsPlanText : List ℕ → Plan → Type 0
IsPlanText bytes plan = IsUtf8 bytes × SaysPlan bytes plan

-- ---- the first line that does not fit

-- Further lines behind these make a plan.
abbrev pub BeginPlan : List (List Lexeme) → Type 0
BeginPlan lines = (more : List (List Lexeme)) × (plan : Plan) × ArePlanLines (lines ++ more) plan

-- The lines before it begin a plan, and with the line of this number they begin none.
pub record HasMisfit (lines : List Line) (number : ℕ) : Type 0 where
  pub before : List Line
  pub line : Line
  pub after : List Line
  pub whole : lines ≡ before ++ line ∷ after
  pub number_is : line.number ≡ number
  pub begins : BeginPlan (written before)
  pub none : BeginPlan (written (before ++ line ∷ [])) → ⊥

-- Behind lines that begin a plan comes the line with a lexical fault; or the text ends before the line end, and the line
-- that would come next is one more than the line feeds.
abbrev pub Stops : List ℕ → TextLines → Option ℕ → ℕ → Type 0
Stops text told (Some broken) number = number ≡ broken
Stops text told None number = ((plan : Plan) → ArePlanLines (written told.whole) plan → ⊥) × (number ≡ number_at text (length text))

-- The first line that does not fit, or the end that comes too early.
abbrev pub IsFirstMisfit : List ℕ → ℕ → Type 0
IsFirstMisfit text number =
    (told : TextLines) × AreLines text told × (HasMisfit told.whole number ⊎ (BeginPlan (written told.whole) × Stops text told told.broken number))

-- Bytes that are no text have the offset of the first byte that begins no character, and a text has its first line that does not fit.
abbrev pub IsPlanReadFault : List ℕ → PlanReadFault → Type 0
IsPlanReadFault bytes NoMemory = Unit {0}
IsPlanReadFault bytes (NotUtf8 offset) = IsFirstBad bytes offset
IsPlanReadFault bytes (LineFault number) = IsUtf8 bytes × IsFirstMisfit bytes number

-- The answer is this plan, unless memory runs out.
abbrev pub OkOrNoMemory : Plan → Result Plan PlanReadFault → Type 0
OkOrNoMemory plan (Ok found) = found ≡ plan
OkOrNoMemory plan (Err NoMemory) = Unit {0}
OkOrNoMemory plan (Err _) = ⊥

-- ---- sizes

-- how many places the steps have
abbrev pub step_places : List Step → ℕ
step_places [] = 0
step_places (step ∷ steps) = length step.places + step_places steps

-- how many places the steps and the outputs of the branches have
abbrev pub branch_places : List Branch → ℕ
branch_places [] = 0
branch_places (branch ∷ branches) = step_places branch.steps + length branch.output + branch_places branches

-- how many places a plan has
abbrev pub places_of : Plan → ℕ
places_of plan = branch_places plan.branches
