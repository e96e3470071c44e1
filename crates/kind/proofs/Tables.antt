-- A list is pinned by its length and its places.
use Rattle.std.proofs.Common.{◌≡◌, ℕ, zero, suc, ◌+◌, ◌<◌, List, [], ◌∷◌, length, get_or, refl, ap, ◌∙◌, arith}
use Rattle.kind.specs.Tables.{table, table_from}

from_places : (n i : ℕ) (xs : List ℕ) (f : ℕ → ℕ) → length xs ≡ n → ((k : ℕ) → k < n → get_or xs k 0 ≡ f (i + k)) → xs ≡ table_from i n f
from_places zero i [] f e h = refl
from_places zero i (x ∷ xs) f e h = absurd (let z : ⊥ = omega arith in z)
from_places (suc n) i [] f e h = absurd (let z : ⊥ = omega arith in z)
from_places (suc n) i (x ∷ xs) f e h =
    let here : x ≡ f i = h 0 (omega arith) ∙ ap f (let z : i + 0 ≡ i = omega arith in z) in
    let rest : xs ≡ table_from (i + 1) n f =
    from_places n (i + 1) xs f (omega arith) (λ k l. h (suc k) (omega arith) ∙ ap f (let z : i + suc k ≡ (i + 1) + k = omega arith in z)) in
    cc

pub is_table : (n : ℕ) (xs : List ℕ) (f : ℕ → ℕ) → length xs ≡ n → ((k : ℕ) → k < n → get_or xs k 0 ≡ f k) → xs ≡ table n f
is_table n xs f e h = from_places n 0 xs f e (λ k l. h k l ∙ ap f (let z : k ≡ 0 + k = omega arith in z))

from_at : (n i : ℕ) (f : ℕ → ℕ) (k : ℕ) → k < n → get_or (table_from i n f) k 0 ≡ f (i + k)
from_at zero i f k h = absurd (let z : ⊥ = omega arith in z)
from_at (suc n) i f zero h = ap f (let z : i ≡ i + 0 = omega arith in z)
from_at (suc n) i f (suc k) h = from_at n (i + 1) f k (omega arith) ∙ ap f (let z : (i + 1) + k ≡ i + suc k = omega arith in z)

pub table_at : (n : ℕ) (f : ℕ → ℕ) (k : ℕ) → k < n → get_or (table n f) k 0 ≡ f k
table_at n f k h = from_at n 0 f k h ∙ ap f (let z : 0 + k ≡ k = omega arith in z)

-- a table of zeros has zero at every place, and past its end
pub zeros_at : (i n k : ℕ) → get_or (table_from i n (λ _. 0)) k 0 ≡ 0
zeros_at i zero k = refl
zeros_at i (suc n) zero = refl
zeros_at i (suc n) (suc k) = zeros_at (i + 1) n k

-- equal at each place
pub tables_alike : (i n : ℕ) (f g : ℕ → ℕ) → ((k : ℕ) → f k ≡ g k) → table_from i n f ≡ table_from i n g
tables_alike i zero f g h = refl
tables_alike i (suc n) f g h = let here = h i in let rest = tables_alike (i + 1) n f g h in cc

-- what follows at each place from tables that are equal
pub tables_paired : (i n : ℕ) (f g F G : ℕ → ℕ) → ((k : ℕ) → f k ≡ g k → F k ≡ G k) → table_from i n f ≡ table_from i n g → table_from i n F ≡ table_from i n G
tables_paired i zero f g F G h e = refl
tables_paired i (suc n) f g F G h e =
    let here : f i ≡ g i = cc in
    let rest : table_from (i + 1) n f ≡ table_from (i + 1) n g = cc in
    let one = h i here in
    let more = tables_paired (i + 1) n f g F G h rest in
    cc
