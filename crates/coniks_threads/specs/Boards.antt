-- What contracts see of a board, its publisher and its watchers.
use Rattle.std.specs.Prelude.{ℕ, List, refl}
use Rattle.std.specs.Coded.{Coded, code_by, coded×, coded_ℕ, coded_list}
use Rattle.atomic_table.specs.Seated.{TableId, table_id_coded}
use Rattle.coniks_proof.specs.declared.values.Head.{Head}

-- A board of this capacity. The table identifies the board.
pub record Boarded : Type 0 where
  pub table : TableId
  pub capacity : ℕ

-- An end of a board, with the heads that it knows: a publisher all that are published, and a watcher those that it has seen.
pub record BoardEnd : Type 0 where
  pub table : TableId
  pub heads : List Head

abbrev pub boarded_code : Coded Boarded
boarded_code = code_by (TableId × ℕ) (coded× table_id_coded coded_ℕ)
    (λ b. (b.table, b.capacity)) (λ p. record { table = p.0; capacity = p.1 }) (λ _. refl)

abbrev pub head_code : Coded Head
head_code = code_by (ℕ × List ℕ) (coded× coded_ℕ (coded_list coded_ℕ))
    (λ h. (h.epoch, h.link.0)) (λ p. record { epoch = p.0; link = record { 0 = p.1 } }) (λ _. refl)

abbrev pub board_end_code : Coded BoardEnd
board_end_code = code_by (TableId × List Head) (coded× table_id_coded (coded_list head_code))
    (λ e. (e.table, e.heads)) (λ p. record { table = p.0; heads = p.1 }) (λ _. refl)

abbrev pub board_end : TableId → List Head → BoardEnd
board_end t heads = record { table = t; heads = heads }
