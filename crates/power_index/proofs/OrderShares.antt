-- In how many of all orders a swing of a size is made, over a common denominator.
use Rattle.std.proofs.Common.{◌≡◌, ◌∙◌, ℕ, zero, suc, ◌+◌, ◌-◌, ◌*◌, ◌/◌, ◌<◌, ◌≤◌, ◌==◌, ◌&&◌, leb, refl, sym, ap, arith, get_or, eqb-true, mul-pos, Bool, true, sum_by}
use Rattle.std.specs.{List.range_with_len, List.list_all}
use Rattle.std.proofs.lemmas.{Bool.Decides.nat_tests, Bool.and_parts, List.Sums.AllPass-from_list_all, List.FromFn.get_or-range_with_len}
use Rattle.std.proofs.Math.Nat.{div-eq_of_eq-mul_right, eq_of_mul-eq-mul_right, le_of_mul-le-mul_right, mul-le-mul_left}
use Rattle.council_game.proofs.Shared.Lists.{all-at}
use Rattle.power_index.specs.Tables.{denominator}
use Rattle.power_index.specs.SwingIndices.{factorial}
use Rattle.power_index.proofs.Orders.{sum-last}
use Rattle.power_index.specs.Inner.Orders.{order_share}

abbrev is-exact : ℕ → ℕ → Bool
is-exact n k = (order_share n k * factorial n == denominator * (factorial k * factorial (n - 1 - k))) && leb (order_share n k) denominator

checked : (n k : ℕ) → k < n → n ≤ 40 → is-exact n k ≡ true
unfolding factorial order_share
checked n k lt le =
    let row : ℕ → Bool = λ m. list_all (is-exact m) (range_with_len 0 m) in
    let at : get_or (range_with_len 1 40) (n - 1) 0 ≡ n = get_or-range_with_len 1 40 (n - 1) 0 (omega arith) ∙ omega arith in
    let all : row n ≡ true = ap row (sym at) ∙ AllPass-from_list_all row (range_with_len 1 40) refl (n - 1) 0 (omega arith) in
    all-at (is-exact n) n k lt all

pub factorial-pos : (n : ℕ) → 0 < factorial n
unfolding factorial
factorial-pos zero = omega arith
factorial-pos (suc n) = let some : 0 < suc n = omega arith in mul-pos some (factorial-pos n)

pub exact : (n k : ℕ) → k < n → n ≤ 40 → order_share n k * factorial n ≡ denominator * (factorial k * factorial (n - 1 - k))
exact n k lt le = eqb-true _ _ (and_parts _ _ (checked n k lt le)).0

pub share-few : (n k : ℕ) → k < n → n ≤ 40 → order_share n k ≤ denominator
share-few n k lt le =
    let few : leb (order_share n k) denominator ≡ true = (and_parts _ _ (checked n k lt le)).1 in grind (arith, nat_tests)

pub first-share : (n : ℕ) → 0 < n → n ≤ 40 → denominator / n ≡ order_share n 0
unfolding factorial
first-share n pos le =
    let m : ℕ = n - 1 in
    let is : n ≡ suc m = omega (arith, pos) in
    let whole : factorial n ≡ n * factorial m = ap factorial is ∙ ap (λ (k : ℕ). k * factorial m) (sym is) in
    let both : order_share n 0 * n * factorial m ≡ denominator * factorial m =
    (let rest : n - 1 - 0 ≡ m = omega arith in
    let at : order_share n 0 * factorial n ≡ denominator * (1 * factorial m) =
    exact n 0 pos le ∙ ap (λ (k : ℕ). denominator * (1 * factorial k)) rest in
    omega (arith, ap (λ (k : ℕ). order_share n 0 * k) whole, at)) in
    div-eq_of_eq-mul_right pos (omega (arith, eq_of_mul-eq-mul_right (factorial m) (factorial-pos m) (order_share n 0 * n) denominator both))

pub next-share : (n k : ℕ) → k + 1 < n → n ≤ 40 → order_share n k * (k + 1) / (n - (k + 1)) ≡ order_share n (k + 1)
unfolding factorial
next-share n k lt le =
    let d : ℕ = n - 1 - (k + 1) in
    let here : n - 1 - k ≡ suc d = omega (arith, lt) in
    let left : n - (k + 1) ≡ suc d = omega (arith, lt) in
    let next : k + 1 ≡ suc k = omega arith in
    let now = exact n k (omega (arith, lt)) le ∙ ap (λ (j : ℕ). denominator * (factorial k * factorial j)) here in
    let then = exact n (k + 1) lt le ∙ ap (λ (j : ℕ). denominator * (factorial j * factorial d)) next in
    let both : order_share n k * (k + 1) * factorial n ≡ suc d * order_share n (k + 1) * factorial n =
    omega (arith, ap (λ (v : ℕ). v * (k + 1)) now, ap (λ (v : ℕ). v * suc d) then) in
    let same = eq_of_mul-eq-mul_right (factorial n) (factorial-pos n) (order_share n k * (k + 1)) (suc d * order_share n (k + 1)) both in
    ap (λ (j : ℕ). order_share n k * (k + 1) / j) left ∙ div-eq_of_eq-mul_right {n = suc d} (omega arith) same

-- swings of one size more, in all orders
pub next-sum : (n size sum : ℕ) (f : ℕ → ℕ) → 1 ≤ size → size ≤ n → n ≤ 40
    → sum * factorial n ≡ denominator * sum_by (λ s. f s * (factorial (s - 1) * factorial (n - s))) (range_with_len 1 (size - 1))
    → (sum + f size * order_share n (size - 1)) * factorial n
    ≡ denominator * sum_by (λ s. f s * (factorial (s - 1) * factorial (n - s))) (range_with_len 1 (size + 1 - 1))
next-sum n size sum f some le few before =
    let term : ℕ → ℕ = λ s. f s * (factorial (s - 1) * factorial (n - s)) in
    let rest : n - 1 - (size - 1) ≡ n - size = omega (arith, some) in
    let next : size + 1 - 1 ≡ suc (size - 1) = omega (arith, some) in
    let last : 1 + (size - 1) ≡ size = omega (arith, some) in
    let own = exact n (size - 1) (omega (arith, some, le)) few ∙ ap (λ (k : ℕ). denominator * (factorial (size - 1) * factorial k)) rest in
    let sums = ap (λ (k : ℕ). sum_by term (range_with_len 1 k)) next ∙ sum-last term 1 (size - 1) ∙ ap (λ (k : ℕ). sum_by term (range_with_len 1 (size - 1)) + term k) last in
    omega (arith, before, ap (λ (v : ℕ). f size * v) own, ap (λ (v : ℕ). denominator * v) sums)

-- sums over the denominator are no greater if those of orders are not
pub at-most : (n sum top : ℕ) → sum * factorial n ≡ denominator * top → top ≤ factorial n → sum ≤ denominator
at-most n sum top same le =
    le_of_mul-le-mul_right {k = factorial n} (omega (arith, same, mul-le-mul_left denominator le)) (factorial-pos n)
