-- What a value without its error says of the result that had it.
use Rattle.std.proofs.Common.{◌≡◌, Some, None, Result, Ok, Err, refl, ap}
use Rattle.std.specs.Result.{result_ok}
use Rattle.std.proofs.lemmas.Option.{same_Some}

pub ok_from : {T E : Type 0} (r : Result T E) (v : T) → result_ok r ≡ Some v → r ≡ Ok v
ok_from (Ok x) v same = ap Ok (same_Some x v same)
ok_from (Err e) v same = absurd (let never = same in cc)

pub err_from : {T E : Type 0} (r : Result T E) → result_ok r ≡ None → (e : E) × (r ≡ Err e)
err_from (Ok x) same = absurd (let never = same in cc)
err_from (Err e) same = (e, refl)
