-- What a table of links means, and its places.
--     slots l         the lists, each from its front
--     size l          how many slots the table has
--     list l r        the list r, empty where there is no such list
--     Sets l r L m    m is the table l with the list L at r: every other list, and the number of slots, are as before
--     from l o        the slots from the link o on
--     Onto l o        the way from the link o stays in the table and ends
--     before L k      the slot before the place k of a list, if there is one
--     Stands l c      the cursor c stands at its place of its list: it knows the slot before it
use Rattle.std.specs.Prelude.{◌≡◌, ℕ, zero, suc, true, List, [], length, None, vec_items, Option, slice_index_or, slice_set}
use Rattle.links.specs.declared.table.Links.{Links}
use Rattle.links.specs.declared.cursor.Cursor.{Cursor}
use Rattle.std.specs.List.{slice_get}
use Rattle.links.specs.Walk.{walk, good, walks}

-- the lists, each from its front
unfoldable pub slots : Links → List (List ℕ)
slots l = walks (vec_items l.next) (vec_items l.heads)

-- how many slots the table has
unfoldable pub size : Links → ℕ
size l = length (vec_items l.next)

-- the list r, empty where there is no such list
abbrev pub list : Links → ℕ → List ℕ
list l r = slice_index_or (slots l) r []

-- one list is another one now, and every other list, and the number of slots, are as before
pub record Sets (l : Links) (r : ℕ) (L : List ℕ) (m : Links) : Type 0 where
  pub sized : size m ≡ size l
  pub lists : slots m ≡ slice_set (slots l) r L

-- the slots from a link on, and that the way ends
unfoldable pub from : Links → Option ℕ → List ℕ
from l o = walk (vec_items l.next) (length (vec_items l.next)) o

unfoldable pub Onto : Links → Option ℕ → Type 0
Onto l o = good (vec_items l.next) (length (vec_items l.next)) o ≡ true

-- the slot before the place k of a list, if there is one
abbrev pub before : List ℕ → ℕ → Option ℕ
before L zero = None
before L (suc k) = slice_get L k

-- the cursor stands at its place of its list
abbrev pub Stands : Links → Cursor → Type 0
Stands l c = c.before ≡ before (list l c.list) c.place
