-- What a call for the numbers of arrays answers.
use Rattle.std.specs.Prelude.{◌≡◌, ◌<◌, ◌*◌, ◌==◌, ◌&&◌, ℕ, Bool, true, false, List, length, map, Result, Ok, Err, ◌⊎◌, ⊤}
use Rattle.council_game.specs.Faults.{number_of}
use Rattle.council_game.specs.declared.limits.TheConstants.{PLAIN_MEMBERS}
use Rattle.council_game.specs.Game.{GameView}
use Rattle.council_game.specs.Members.{members}
use Rattle.council_game.specs.declared.fault.GameFault.{GameFault}
use Rattle.council_game.specs.declared.fault.GameFault.TheVariants as game
use Rattle.council_c.specs.Asked.{are_wrong, asks_swings, has_size, visits_of, ways_of}
use Rattle.council_c.specs.Bounded.{IsTooLong}
use Rattle.council_run.specs.declared.fault.Cause.TheVariants as cause
use Rattle.council_c.specs.Answer.{status_of_call}
use Rattle.council_c.specs.Arrays.{game_of_arrays, member_of_fault, rule_of_fault, rules_of}
use Rattle.council_c.specs.Numbers.{IsSummary, numbers}
use Rattle.council_c.specs.declared.fault.Fault.{Fault}
use Rattle.council_c.specs.declared.fault.Fault.TheVariants as fault
use Rattle.council_c.specs.declared.results.CouncilMember.{CouncilMember}
use Rattle.council_c.specs.declared.results.CouncilSummary.{CouncilSummary}

-- What a call is given: quotas, weights rule by rule, how many members there are, and the words of
-- its options.
pub record Request : Type 0 where
  pub quotas : List ℕ
  pub weights : List ℕ
  pub members : ℕ
  pub words : List ℕ

-- the options have their size, each rule has a weight for each member, and the structs have the
-- sizes of this version
abbrev pub fits : Request → CouncilSummary → Bool
fits r s = has_size r.words && (length r.quotas * r.members == length r.weights)
    && ((s.size == 544) && (s.member_size == 288))

-- the arrays hold this game, or this first fault
abbrev pub HoldArrays : Request → Result GameView GameFault → Type 0
HoldArrays r answer = game_of_arrays r.quotas r.weights r.members (ways_of r.words) ≡ answer

-- a fault of the game that arrays hold, and the rule that it is of; or memory was refused
abbrev pub IsFaultOf : Request → Fault → ℕ → Type 0
IsFaultOf r (fault.Run (cause.Game game.Memory)) rule = ⊥
IsFaultOf r (fault.Run (cause.Game why)) rule =
    HoldArrays r (Err why) × (rule ≡ rule_of_fault why (rules_of r.quotas r.weights r.members))
IsFaultOf r (fault.Run cause.Memory) rule = ⊤
IsFaultOf r why rule = ⊥

-- the sizes fit, and a call takes the options
abbrev pub IsRight : Request → CouncilSummary → Type 0
IsRight r s = (fits r s ≡ true) × (are_wrong r.words ≡ false)

-- why there is no game: the sizes do not fit, the options are wrong, or the game has a fault
abbrev pub HasNoGame : Request → CouncilSummary → Fault → ℕ → Type 0
HasNoGame r s fault.Size rule = fits r s ≡ false
HasNoGame r s fault.Options rule = (fits r s ≡ true) × (are_wrong r.words ≡ true)
HasNoGame r s why rule = IsRight r s × IsFaultOf r why rule

-- why there is no answer: there is no game, or a fault on the way from it to the answer
abbrev pub StopsArrays : (GameView → Fault → Type 0) → Request → CouncilSummary → Fault → ℕ → Type 0
StopsArrays StopsOnGame r s why rule =
    HasNoGame r s why rule ⊎ (IsRight r s × ((g : GameView) × HoldArrays r (Ok g) × StopsOnGame g why))

-- why the numbers of a game are not computed
abbrev pub StopsCounts : Bool → ℕ → GameView → Fault → Type 0
StopsCounts swings visits g (fault.Run cause.Memory) = ⊤
StopsCounts swings visits g (fault.Run cause.States) = (swings ≡ true) × (PLAIN_MEMBERS < length g.names)
StopsCounts swings visits g fault.TooLong = (PLAIN_MEMBERS < length g.names) × IsTooLong visits g
StopsCounts swings visits g why = ⊥

abbrev pub StopsNumbers : List ℕ → GameView → Fault → Type 0
StopsNumbers ws = StopsCounts (asks_swings ws) (visits_of ws)

-- the summary with the numbers of the fault, or of none; unchanged if what was asked is wrong
abbrev pub with_fault : Fault → ℕ → CouncilSummary → CouncilSummary
with_fault fault.Size rule s = s
with_fault fault.Options rule s = s
with_fault (fault.Run (cause.Game why)) rule s = record s { fault = number_of why; member = member_of_fault why; rule = rule }
with_fault other rule s = record s { fault = 0; member = 0; rule = 0 }

-- The results are the numbers of the game that the arrays hold.
abbrev pub AreNumbers : Request → List CouncilMember → CouncilSummary → Type 0
AreNumbers r results s = (g : GameView) × HoldArrays r (Ok g)
    × (results ≡ map (numbers (asks_swings r.words) g) (members g)) × IsSummary (asks_swings r.words) g s

-- Status 0 comes with the numbers, and any other with the fault; then the results are unchanged.
abbrev pub AnswersArrays : Request → List CouncilMember → List CouncilMember → CouncilSummary → CouncilSummary → ℕ → Type 0
AnswersArrays r before after old new status =
    ((status ≡ 0) × IsRight r old × AreNumbers r after new)
    ⊎ ((why : Fault) × (rule : ℕ) × StopsArrays (StopsNumbers r.words) r old why rule
    × (status ≡ status_of_call why) × (after ≡ before) × (new ≡ with_fault why rule old))
