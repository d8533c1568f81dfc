-- What a production answers at the exit of a `?`.
use Rattle.std.proofs.Common.{◌≡◌, List, Result, Err}
use Rattle.std.specs.Result.{IsErrAnd, IfErr}
use Rattle.std.proofs.lemmas.Result.{err_from_is_err_and}
use Rattle.dp_grammar.specs.Grammar as grammar
use Rattle.dp_grammar.specs.Grammar.{Reading, Stops}
use Rattle.fz_model.specs.declared.fault.Fault.{Fault}
use Rattle.fz_model.specs.Words.{Word}
use Rattle.fz_items.specs.Gives.{cause_of, Gives, IfRefused}
use Rattle.fz_items.specs.Stops.{refused}
use Rattle.fz_items.specs.declared.stop.Cause.{Cause}
use Rattle.fz_items.specs.declared.stop.Stop.{Stop}
use Rattle.fz_items.specs.declared.stop.Stop.TheVariants.{Refused, Memory}

-- a cause is handed on
pub gives_refused : {X Y : Type 0} (view : Y → X) (reading : Reading Word Fault X) (result : Result Y Stop) (cause : Cause) (rest : List Word) → IsErrAnd result (λ stop. stop ≡ refused cause) → reading ≡ Stops (cause_of cause) rest → Gives view reading result rest
gives_refused view reading result cause rest is e =
    let p = err_from_is_err_and result is in
    rw (p.1, p.2) e

-- a refusal is one of the other reading too
stops_alike : {X X' Y Y' : Type 0} (view : Y → X) (view' : Y' → X') (reading : Reading Word Fault X) (other : Reading Word Fault X') (stop : Stop) (rest : List Word)
    → ((cause : grammar.Cause Fault) → reading ≡ Stops cause rest → other ≡ Stops cause rest)
    → Gives {X = X} {Y = Y} view reading (Err stop) rest → Gives {X = X'} {Y = Y'} view' other (Err stop) rest
stops_alike view view' reading other (Refused cause) rest alike given = alike (cause_of cause) given
stops_alike view view' reading other Memory rest alike given = tt

-- a refusal or want of memory is handed on
pub gives_stop : {X X' Y Y' : Type 0} (view : Y → X) (view' : Y' → X') (reading : Reading Word Fault X) (other : Reading Word Fault X') (result : Result Y' Stop) (stop : Stop) (rest : List Word)
    → IsErrAnd result (λ s. s ≡ stop)
    → ((cause : grammar.Cause Fault) → reading ≡ Stops cause rest → other ≡ Stops cause rest)
    → Gives {X = X} {Y = Y} view reading (Err stop) rest → Gives view' other result rest
gives_stop view view' reading other result stop rest is alike given =
    let p = err_from_is_err_and result is in
    rw (p.1, p.2) (stops_alike view view' reading other stop rest alike given)

-- what holds of a refusal holds of it where it is handed on
refused_alike : (stop : Stop) (P Q : Cause → Type 0) → ((cause : Cause) → P cause → Q cause) → IfRefused stop P → IfRefused stop Q
refused_alike (Refused cause) P Q alike h = alike cause h
refused_alike Memory P Q alike h = tt

pub refused_on : {Y : Type 0} (result : Result Y Stop) (stop : Stop) (P Q : Cause → Type 0) → IsErrAnd result (λ s. s ≡ stop) → ((cause : Cause) → P cause → Q cause) → IfRefused stop P → IfErr result (λ s. IfRefused s Q)
refused_on result stop P Q is alike h =
    let p = err_from_is_err_and result is in
    rw (p.1, p.2) (refused_alike stop P Q alike h)

-- and where a cause is
pub refused_by : {Y : Type 0} (result : Result Y Stop) (cause : Cause) (Q : Cause → Type 0) → IsErrAnd result (λ s. s ≡ refused cause) → Q cause → IfErr result (λ s. IfRefused s Q)
refused_by result cause Q is h =
    let p = err_from_is_err_and result is in
    rw (p.1, p.2) h
