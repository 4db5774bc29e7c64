-- The line of a coalition, place by place, for the next one to share.
use Rattle.std.specs.Prelude.{◌≡◌, ◌≤◌, ◌<◌, ◌^◌, ℕ, List, false, length, map, slice_index, slice_index_or}
use Rattle.std.specs.List.{filter, flat_map, sum, range_with_len}
use Rattle.std.specs.Vec.{vec_capacity}
use Rattle.council_game.specs.declared.limits.TheConstants.{MEMBERS, SIZES, RULES}
use Rattle.council_game.specs.Votes.{has, rule_at}
use Rattle.council_game.specs.Ranks.{member_at}
use Rattle.council_game.specs.Game.{GameView, IsGame, votes_of}
use Rattle.council_report.specs.Lines.{with_tab, name_of}
use Rattle.council_report.specs.declared.output.TheConstants.{LINE}
use Rattle.council_report.specs.declared.label.Label.{Label}
use Rattle.council_report.specs.declared.subtotal.Subtotal.{Subtotal}
use Rattle.council_report.specs.declared.shared_line.SharedLine.{SharedLine}

-- the places below k that are in c, in a game of n members
unfoldable pub places_before : ℕ → ℕ → ℕ → List ℕ
places_before n c k = filter (λ p. has n p c) (range_with_len 0 k)

-- the name of the member of rank place p
abbrev pub name_at : GameView → ℕ → List ℕ
name_at g p = name_of g (member_at g.ranks p)

-- the names of the members of some places, each after a TAB
unfoldable pub fields_of : GameView → List ℕ → List ℕ
fields_of g places = flat_map with_tab (map (λ p. name_at g p) places)

-- the weights by rank under rule number r; none if there is no such rule
unfoldable pub weights_under : GameView → ℕ → List ℕ
weights_under g r = (rule_at (votes_of g).rules r).weights

-- what the members of some places weigh together under rule number r
unfoldable pub weight_of_places : GameView → ℕ → List ℕ → ℕ
weight_of_places g r places = sum (map (λ p. slice_index (weights_under g r) p) places)

-- what the member of place p adds to a line: its name after a TAB, and its weight under each rule
pub record IsLabel (g : GameView) (p : ℕ) (label : Label) : Type 0 where
  pub field : label.field.items ≡ with_tab (name_at g p)
  pub long : length label.weights ≡ RULES
  pub weights : (r : ℕ) → r < RULES → slice_index label.weights r ≡ slice_index (weights_under g r) p

-- the labels of the first k places
pub record AreLabels (g : GameView) (k : ℕ) (labels : List Label) : Type 0 where
  pub long : length labels ≡ k
  pub each : (p : ℕ) (d : Label) → p < k → IsLabel g p (slice_index_or labels p d)

-- how long the names of these places are, and what they weigh under each rule
pub record IsSubtotal (g : GameView) (places : List ℕ) (subtotal : Subtotal) : Type 0 where
  pub names : subtotal.length ≡ length (fields_of g places)
  pub long : length subtotal.weights ≡ RULES
  pub weights : (r : ℕ) → r < RULES → slice_index subtotal.weights r ≡ weight_of_places g r places

-- The line of its coalition up to the place where it ends: the names of the members of the places
-- before, and a subtotal for each of these places.
pub record IsLine (g : GameView) (line : SharedLine) : Type 0 where
  pub game : IsGame g
  pub few : length g.names ≤ MEMBERS
  pub labels : AreLabels g (length g.names) line.labels.items
  pub room : LINE ≤ vec_capacity line.names
  pub within : line.end ≤ length g.names
  pub names : line.names.items ≡
      fields_of g (places_before (length g.names) line.coalition line.end)
  pub long : length line.subtotals ≡ SIZES
  pub subtotals : (k : ℕ) (d : Subtotal) → k ≤ line.end →
      IsSubtotal g (places_before (length g.names) line.coalition k) (slice_index_or line.subtotals k d)

-- no place from k on is in c
abbrev pub HasNoneFrom : ℕ → ℕ → ℕ → Type 0
HasNoneFrom n k c = (p : ℕ) → k ≤ p → p < n → has n p c ≡ false

-- a and b have the same of the places before k
abbrev pub SameBefore : ℕ → ℕ → ℕ → ℕ → Type 0
SameBefore n k a b = (p : ℕ) → p < k → has n p a ≡ has n p b

-- all of the line: no member of the coalition comes behind
pub record IsWholeLine (g : GameView) (c : ℕ) (line : SharedLine) : Type 0 where
  pub is : IsLine g line
  pub coalition : line.coalition ≡ c
  pub whole : HasNoneFrom (length g.names) line.end c

-- a line of a coalition of the game, whichever that is
pub record IsReadyLine (g : GameView) (line : SharedLine) : Type 0 where
  pub is : IsLine g line
  pub below : line.coalition < 2 ^ length g.names
