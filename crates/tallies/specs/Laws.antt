-- Tallies keep the laws of a kind: each at one counter, then at all four.
use Rattle.std.specs.Prelude.{◌≡◌, List, ℕ, ◌%◌, ◌^◌, get_or}
use Rattle.std.proofs.Common.{arith}
use Rattle.kind.specs.Kinds.{Laws}
use Rattle.kind.proofs.Tables.{tables_alike, tables_paired}
use Rattle.tallies.specs.Tallies.{tallies_ops, add64, sub64}

undone_at : (x y : ℕ) → sub64 (add64 x y) y % 2 ^ 64 ≡ x % 2 ^ 64
undone_at x y = omega arith

joined_at : (x y z : ℕ) → sub64 x (add64 y z) % 2 ^ 64 ≡ sub64 (sub64 x y) z % 2 ^ 64
joined_at x y z = omega arith

add_alike : (x x' y : ℕ) → x % 2 ^ 64 ≡ x' % 2 ^ 64 → add64 x y % 2 ^ 64 ≡ add64 x' y % 2 ^ 64
add_alike x x' y h = omega arith

sub_alike : (x x' y : ℕ) → x % 2 ^ 64 ≡ x' % 2 ^ 64 → sub64 x y % 2 ^ 64 ≡ sub64 x' y % 2 ^ 64
sub_alike x x' y h = omega arith

idle_at : (x : ℕ) → sub64 x 0 % 2 ^ 64 ≡ x % 2 ^ 64
idle_at x = omega arith

abbrev at : List ℕ → ℕ → ℕ
at xs i = get_or xs i 0

pub tallies_laws : Laws tallies_ops
tallies_laws = record {
  undone = λ r e. tables_alike 0 4 (λ i. sub64 (add64 (at r.values i) (at e.values i)) (at e.values i) % 2 ^ 64) (λ i. at r.values i % 2 ^ 64) (λ i. undone_at _ _);
  joined = λ r n o. tables_alike 0 4
      (λ i. sub64 (at r.values i) (add64 (at n.values i) (at o.values i)) % 2 ^ 64)
      (λ i. sub64 (sub64 (at r.values i) (at n.values i)) (at o.values i) % 2 ^ 64)
      (λ i. joined_at _ _ _);
  alike_edit = λ r q e h. tables_paired 0 4 (λ i. at r.values i % 2 ^ 64) (λ i. at q.values i % 2 ^ 64)
      (λ i. add64 (at r.values i) (at e.values i) % 2 ^ 64) (λ i. add64 (at q.values i) (at e.values i) % 2 ^ 64)
      (λ i. add_alike (at r.values i) (at q.values i) (at e.values i)) h;
  alike_undo = λ r q c h. tables_paired 0 4 (λ i. at r.values i % 2 ^ 64) (λ i. at q.values i % 2 ^ 64)
      (λ i. sub64 (at r.values i) (at c.values i) % 2 ^ 64) (λ i. sub64 (at q.values i) (at c.values i) % 2 ^ 64)
      (λ i. sub_alike (at r.values i) (at q.values i) (at c.values i)) h;
  idle = λ r. tables_alike 0 4 (λ i. sub64 (at r.values i) 0 % 2 ^ 64) (λ i. at r.values i % 2 ^ 64) (λ i. idle_at _);
}
