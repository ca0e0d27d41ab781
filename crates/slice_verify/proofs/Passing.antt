-- What is passed on of a call's result.
use Rattle.std.proofs.Common.{◌≡◌, sym, subst}
use Rattle.std.specs.Prelude.{Result, Ok, Err, IfOk, IfErr, OnOk}
use Rattle.std.specs.Result.{IsErrAnd}

-- an error that `?` passes on
pub passed_on : {T E : Type 0} (r : Result T E) (P : E → Type 0) (e : E) → IsErrAnd r (λ x. x ≡ e) → P e → IfErr r P
passed_on (Ok x) P e h p = tt
passed_on (Err y) P e h p = subst P (sym h) p

pub ok_map : {T E : Type 0} (r : Result T E) (P Q : T → Type 0) → IfOk r P → ((x : T) → P x → Q x) → IfOk r Q
ok_map (Ok x) P Q h f = f x h
ok_map (Err e) P Q h f = tt

pub err_map : {T E : Type 0} (r : Result T E) (P Q : E → Type 0) → IfErr r P → ((e : E) → P e → Q e) → IfErr r Q
err_map (Ok x) P Q h f = tt
err_map (Err e) P Q h f = f e h

-- a decision that is told, and what holds beside it
pub ok_also : {T E : Type 0} (r : Result T E) (x : T) (P : Type 0) (Q : T → Type 0) → IfOk r (λ y. y ≡ x) → OnOk r P → (P → Q x) → IfOk r Q
ok_also (Ok y) x P Q h p f = subst Q (sym h) (f p)
ok_also (Err e) x P Q h p f = tt

pub ok_also_two : {T E : Type 0} (r : Result T E) (x : T) (P R : Type 0) (Q : T → Type 0) → IfOk r (λ y. y ≡ x) → OnOk r P → OnOk r R → (P → R → Q x) → IfOk r Q
ok_also_two (Ok y) x P R Q h p q f = subst Q (sym h) (f p q)
ok_also_two (Err e) x P R Q h p q f = tt

pub on_map_three : {T E : Type 0} (r : Result T E) (P Q R S : Type 0) → OnOk r P → OnOk r Q → OnOk r R → (P → Q → R → S) → OnOk r S
on_map_three (Ok x) P Q R S p q r f = f p q r
on_map_three (Err e) P Q R S p q r f = tt
