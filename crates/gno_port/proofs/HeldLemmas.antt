-- Tables that are put back on the shelf, and tables that are brought from it.
use Rattle.std.proofs.Common.{◌≡◌, ℕ, List, [], ◌∷◌, ap, ◌∙◌, refl, sym}
use Rattle.std.specs.Prelude.{Option, Some, None, Bool, true, false, cond}
use Rattle.std.specs.Option.{unwrap_or}
use Rattle.std.specs.Str.{bytes_eq}
use Rattle.std.specs.Cmp.Lexicographic.{bytes_decides}
use Rattle.std.specs.BTreeMap as tree
use Rattle.std.proofs.lemmas.Bool.{cases_Bool, cond-true, cond-false}
use mathlib.Core.Logic.{⊎_elim}
use mathlib.Core.Path.{subst}
use Rattle.gno_port.specs.declared.held.HeldTable.{HeldTable}
use Rattle.gno_port.specs.declared.held.KeptTable.{KeptTable}
use Rattle.gno_port.specs.Tables.{Table}
use Rattle.gno_port.specs.Rows.{Rows, rows_table}
use Rattle.gno_port.specs.HeldTables.{Shelf, shelved, found_or, desk_or, desk_name, given_table}
use Rattle.gno_port.proofs.RowLemmas.{vec_cmp, at_bytes, updated_at}

spread : (b : Bool) (rows : Rows) (o : Option Rows) (t : Table) → found_or (cond b (Some rows) o) t ≡ cond b (rows_table rows) (found_or o t)
spread true rows o t = refl
spread false rows o t = refl

pub put_back_same : (shelf new : Shelf) (desk left : Option HeldTable) (held : HeldTable) → left ≡ None → desk ≡ Some held
    → tree.UpdatesBy vec_cmp (at_bytes held.name.items) shelf new (Some held.rows)
    → (name : List ℕ) (t : Table) → desk_or left name (found_or (shelved new name) t) ≡ desk_or desk name (found_or (shelved shelf name) t)
put_back_same shelf new desk left held l d u name t =
    ap (λ x. desk_or x name (found_or (shelved new name) t)) l
    ∙ ap (λ o. found_or o t) (updated_at shelf new held.name.items (Some held.rows) u name)
    ∙ spread (bytes_eq name held.name.items) held.rows (shelved shelf name) t
    ∙ ap (λ x. desk_or x name (found_or (shelved shelf name) t)) (sym d)

pub put_back_others : (shelf new : Shelf) (desk : Option HeldTable) (held : HeldTable) → desk ≡ Some held
    → tree.UpdatesBy vec_cmp (at_bytes held.name.items) shelf new (Some held.rows)
    → (name : List ℕ) → (desk_name desk ≡ Some name → ⊥) → shelved new name ≡ shelved shelf name
put_back_others shelf new desk held d u name ne =
    updated_at shelf new held.name.items (Some held.rows) u name
    ∙ ⊎_elim
    (λ y. absurd (ne (ap desk_name d ∙ ap (λ (n : List ℕ). Some n) (sym ((bytes_decides name held.name.items).0 y)))))
    (λ n. cond-false (bytes_eq name held.name.items) _ _ n)
    (cases_Bool (bytes_eq name held.name.items))

chosen : (found : Option Rows) (fresh : Rows) (t : Table) → (found ≡ None → rows_table fresh ≡ t) → rows_table (unwrap_or found fresh) ≡ found_or found t
chosen None fresh t h = h refl
chosen (Some rows) fresh t h = refl

pub brought : (given : List KeptTable) (shelf held removed : Shelf) (desk left : Option HeldTable) (name slice : List ℕ) (fresh result : Rows) (found : Option Rows)
    → left ≡ None
    → ((n : List ℕ) (t : Table) → desk_or left n (found_or (shelved held n) t) ≡ desk_or desk n (found_or (shelved shelf n) t))
    → shelved held name ≡ shelved shelf name
    → (shelved shelf name ≡ None → rows_table fresh ≡ given_table given name)
    → slice ≡ name
    → found ≡ shelved held slice
    → tree.UpdatesBy vec_cmp (at_bytes slice) held removed None
    → result ≡ unwrap_or found fresh
    → (other : List ℕ) → cond (bytes_eq other name) (rows_table result) (found_or (shelved removed other) (given_table given other))
    ≡ desk_or desk other (found_or (shelved shelf other) (given_table given other))
brought given shelf held removed desk left name slice fresh result found l same others fresh_is e f u r other =
    let u' = subst (λ s. tree.UpdatesBy vec_cmp (at_bytes s) held removed None) e u in
    let f' = f ∙ ap (shelved held) e in
    let t = given_table given in
    let here : rows_table result ≡ found_or (shelved held name) (t name) =
    ap rows_table r ∙ chosen found fresh (t name) (λ none. fresh_is (sym others ∙ sym f' ∙ none)) ∙ ap (λ o. found_or o (t name)) f' in
    ⊎_elim
    (λ y. cond-true (bytes_eq other name) _ _ y ∙ here ∙ ap (λ n. found_or (shelved held n) (t n)) (sym ((bytes_decides other name).0 y)))
    (λ n. cond-false (bytes_eq other name) _ _ n ∙ ap (λ o. found_or o (t other)) (updated_at held removed name None u' other ∙ cond-false (bytes_eq other name) _ _ n))
    (cases_Bool (bytes_eq other name))
    ∙ ap (λ d. desk_or d other (found_or (shelved held other) (t other))) (sym l) ∙ same other (t other)
