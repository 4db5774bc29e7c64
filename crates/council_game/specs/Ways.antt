-- Ways to win: each is a list of rules, by their numbers from 0, that a coalition meets together.
use Rattle.std.specs.Prelude.{ℕ, Bool, ◌&&◌, ◌==◌, nat_lt, nat_le, List, [], ◌∷◌, length, count_by}
use Rattle.std.specs.List.{list_any, list_all, range_with_len}
use Rattle.council_game.specs.declared.limits.TheConstants.{WAYS}

-- the rule is in the way
abbrev pub has_rule : List ℕ → ℕ → Bool
has_rule way r = list_any (λ s. s == r) way

-- the way has each rule of the other one
abbrev pub covers : List ℕ → List ℕ → Bool
covers way other = list_all (has_rule way) other

-- a way has a rule; its rules are among n, each once
abbrev pub is_way : ℕ → List ℕ → Bool
is_way n way = nat_le 1 (length way) && list_all (λ r. nat_lt r n && count_by (λ s. s == r) way == 1) way

-- 1 to 6 ways of n rules: none has all rules of another one, and each rule is in one
abbrev pub are_ways : ℕ → List (List ℕ) → Bool
are_ways n ways = (nat_le 1 (length ways) && nat_le (length ways) WAYS)
    && list_all (is_way n) ways
    && list_all (λ way. count_by (covers way) ways == 1) ways
    && list_all (λ r. list_any (λ way. has_rule way r) ways) (range_with_len 0 n)

-- the one way of all n rules
abbrev pub one_way : ℕ → List (List ℕ)
one_way n = range_with_len 0 n ∷ []
