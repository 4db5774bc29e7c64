-- What a call is asked for: the words of a caller's struct, of which the end may be missing.
use Rattle.std.specs.Prelude.{ℕ, ◌-◌, ◌*◌, ◌^◌, ◌==◌, ◌&&◌, ◌||◌, nat_lt, Bool, List, length, take, drop, map, get_or, Option, None, Some, if◌then◌else◌}
use Rattle.std.specs.List.{list_any, range_with_len}
use Rattle.council_game.specs.declared.limits.TheConstants.{COALITIONS, STATES, WAYS}
use Rattle.council_game.specs.declared.report_lines.ReportLines.{ReportLines}
use Rattle.council_run.specs.declared.columns.Columns.{Columns}
use Rattle.council_run.specs.declared.columns.Columns.TheVariants as columns

-- word k; 0 if it is missing
abbrev pub word : List ℕ → ℕ → ℕ
word ws k = get_or ws k 0

-- word k says yes
abbrev pub asks : List ℕ → ℕ → Bool
asks ws k = word ws k == 1

-- the first word is the size of all of them in bytes
abbrev pub has_size : List ℕ → Bool
has_size ws = word ws 0 == 8 * length ws

-- how many minimal winning coalitions are kept at most; 0 means a million
abbrev pub most_of : List ℕ → ℕ
most_of ws = if word ws 1 == 0 then 1000000 else word ws 1

-- how many visits a walk may make; 0 means any number
abbrev pub visits_of : List ℕ → ℕ
visits_of ws = if word ws 2 == 0 then 2 ^ 64 - 1 else word ws 2

-- the optional lines of the report
abbrev pub lines_of : List ℕ → ReportLines
lines_of ws = record { list = asks ws 5; sizes = asks ws 6; notation = asks ws 7 }

-- swings are asked for
abbrev pub asks_swings : List ℕ → Bool
asks_swings ws = asks ws 8 || asks ws 9

-- which numbers are asked for
abbrev pub columns_of : List ℕ → Columns
columns_of ws = if asks ws 9 then columns.Swings else if asks ws 8 then columns.Both else columns.Minimal

-- a tally takes any number of coalitions, and so does a report of only swings
abbrev pub limit_in : Columns → Bool → ℕ → Option ℕ
limit_in columns.Swings tally most = None
limit_in other tally most = if tally then None else Some most

abbrev pub limit_of : List ℕ → Option ℕ
limit_of ws = limit_in (columns_of ws) (asks ws 4) (most_of ws)

-- the rules of each way, as binary digits
abbrev pub ways_of : List ℕ → List ℕ
ways_of ws = map (word ws) (range_with_len 10 WAYS)

-- they answer a question with neither yes nor no
abbrev pub have_other_answer : List ℕ → Bool
have_other_answer ws = list_any (nat_lt 1) (take 6 (drop 4 ws))

-- they have a word that this version does not know (word 16 is the address of a flag)
abbrev pub have_unknown : List ℕ → Bool
have_unknown ws = list_any (nat_lt 0) (drop 17 ws)

-- they ask for more than can be kept
abbrev pub ask_much : List ℕ → Bool
ask_much ws = nat_lt COALITIONS (word ws 1) || nat_lt STATES (word ws 3)

-- they ask for a tally, which keeps none, to list or to keep some
abbrev pub ask_both : List ℕ → Bool
ask_both ws = asks ws 4 && (asks ws 5 || nat_lt 0 (word ws 1))

-- no call takes them
abbrev pub are_wrong : List ℕ → Bool
are_wrong ws = have_other_answer ws || have_unknown ws || ask_much ws || ask_both ws

-- they name ways, which a game file has of its own
abbrev pub have_ways : List ℕ → Bool
have_ways ws = list_any (nat_lt 0) (ways_of ws)
