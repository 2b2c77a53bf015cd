-- The worked cases of sessions, from the definitions by evaluation alone.
use Rattle.std.proofs.Common.{◌≡◌, ℕ, true, false, List, [], ◌∷◌, codes, replicate, refl}
use Rattle.kv_types.specs.declared.change.Change.TheVariants.{Put, Drop, DropKey, Clear}
use Rattle.kv_types.specs.declared.record_id.RecordId.TheVariants.{Str, Field}
use Rattle.kv_types.specs.declared.reply.Reply.{Simple, Error, NullArray}
use Rattle.kv_types.specs.Keyspace.{Keyspace}
use Rattle.cmd_core.specs.Contents.{has_key}
use Rattle.kv_types.specs.CommandName.{is_named}
use Rattle.multi_watch.specs.Session.{Session, idle_session, modified, modified_where}
use Rattle.multi_watch.specs.Modified.{modifies}
use Rattle.multi_watch.specs.Verb.{verb_of}
use Rattle.multi_watch.specs.Admission.{Admission, Answer, Run, RunAll, admit, session_after_request, session_after_refusal, may_grow}

abbrev after : Session → List (List (List ℕ)) → Session
after session [] = session
after session (words ∷ requests) = after (session_after_request session words) requests

abbrev multi : List (List ℕ)
multi = codes "MULTI" ∷ []

abbrev exec : List (List ℕ)
exec = codes "exec" ∷ []

abbrev discard : List (List ℕ)
discard = codes "DISCARD" ∷ []

abbrev unwatch : List (List ℕ)
unwatch = codes "UNWATCH" ∷ []

abbrev watch_k : List (List ℕ)
watch_k = codes "WATCH" ∷ codes "k" ∷ []

abbrev get_k : List (List ℕ)
get_k = codes "GET" ∷ codes "k" ∷ []

-- GET with a word too few
abbrev bad : List (List ℕ)
bad = codes "GET" ∷ []

abbrev ok : Admission
ok = Answer (Simple (codes "OK"))

-- ---- outside a transaction

outside :
    (admit idle_session get_k ≡ Run get_k)
    × (admit idle_session exec ≡ Answer (Error (codes "ERR EXEC without MULTI")))
    -- and it forgets no watch
    × (after idle_session (watch_k ∷ exec ∷ []) ≡ after idle_session (watch_k ∷ []))
    × (admit idle_session discard ≡ Answer (Error (codes "ERR DISCARD without MULTI")))
    -- a refused request leaves a session without a transaction as it is
    × (after idle_session (bad ∷ []) ≡ idle_session)
    × (after (modified (codes "k") (after idle_session (watch_k ∷ []))) (unwatch ∷ []) ≡ idle_session)
unfolding verb_of is_named
outside = (refl, refl, refl, refl, refl, refl)

-- ---- a transaction

transaction :
    (admit (after idle_session (multi ∷ [])) get_k ≡ Answer (Simple (codes "QUEUED")))
    × (admit (after idle_session (multi ∷ get_k ∷ unwatch ∷ [])) exec ≡ RunAll (get_k ∷ unwatch ∷ []))
    × (after idle_session (watch_k ∷ multi ∷ get_k ∷ exec ∷ []) ≡ idle_session)
    × (admit (after idle_session (multi ∷ [])) exec ≡ RunAll [])
    × (admit (after idle_session (multi ∷ get_k ∷ [])) multi ≡ Answer (Error (codes "ERR MULTI calls can not be nested")))
    × (admit (after idle_session (multi ∷ get_k ∷ multi ∷ watch_k ∷ [])) exec ≡ RunAll (get_k ∷ []))
    × (admit (after idle_session (multi ∷ [])) watch_k ≡ Answer (Error (codes "ERR WATCH inside MULTI is not allowed")))
    × (after idle_session (watch_k ∷ multi ∷ get_k ∷ discard ∷ []) ≡ idle_session)
    × (admit (after idle_session (multi ∷ get_k ∷ [])) (codes "QUIT" ∷ []) ≡ Run (codes "QUIT" ∷ []))
unfolding verb_of is_named
transaction = (refl, refl, refl, refl, refl, refl, refl, refl, refl)

-- ---- a transaction that is not run

not_run :
    (admit (after idle_session (multi ∷ bad ∷ get_k ∷ [])) exec ≡ Answer (Error (codes "EXECABORT Transaction discarded because of previous errors.")))
    × (admit (after idle_session (multi ∷ bad ∷ [])) get_k ≡ Answer (Simple (codes "QUEUED")))
    -- the 257th request
    × (admit (record { is_open = true; queue = replicate 256 get_k; is_spoiled = false; watched = [] }) get_k ≡ Answer (Error (codes "ERR transaction is too long")))
    × (admit (record { is_open = true; queue = replicate 255 get_k; is_spoiled = false; watched = [] }) get_k ≡ Answer (Simple (codes "QUEUED")))
    × (admit (modified (codes "k") (after idle_session (watch_k ∷ multi ∷ get_k ∷ []))) exec ≡ Answer NullArray)
    -- also by a change before MULTI, and though the key is watched again
    × (admit (after (modified (codes "k") (after idle_session (watch_k ∷ []))) (watch_k ∷ multi ∷ get_k ∷ [])) exec ≡ Answer NullArray)
    × (admit (modified (codes "j") (after idle_session (watch_k ∷ multi ∷ get_k ∷ []))) exec ≡ RunAll (get_k ∷ []))
    × (admit (modified (codes "k") (after idle_session (watch_k ∷ multi ∷ bad ∷ []))) exec
    ≡ Answer (Error (codes "EXECABORT Transaction discarded because of previous errors.")))
unfolding verb_of is_named
not_run = (refl, refl, refl, refl, refl, refl, refl, refl)

-- ---- memory

refused :
    (session_after_refusal (after idle_session (multi ∷ [])) get_k ≡ after idle_session (multi ∷ bad ∷ []))
    × (session_after_refusal (after idle_session (multi ∷ get_k ∷ [])) exec ≡ after idle_session (multi ∷ get_k ∷ []))
unfolding verb_of is_named
refused = (refl, refl)

-- ---- which requests may be refused for memory

may_be_refused :
    (may_grow (after idle_session (multi ∷ [])) get_k ≡ true)
    × (may_grow idle_session get_k ≡ false)
    × (may_grow idle_session bad ≡ true)
    × (may_grow idle_session (codes "NOSUCH" ∷ []) ≡ false)
    × (may_grow (after idle_session (multi ∷ [])) exec ≡ true)
    × (may_grow (after idle_session (multi ∷ bad ∷ [])) exec ≡ false)
    × (may_grow idle_session watch_k ≡ true)
    × (may_grow (after idle_session (multi ∷ [])) watch_k ≡ false)
unfolding verb_of is_named
may_be_refused = (refl, refl, refl, refl, refl, refl, refl, refl)

-- ---- which keys changes modify

-- a string k, and a hash h of one field
abbrev s : Keyspace
s = (Field (codes "h") (codes "f"), codes "1") ∷ (Str (codes "k"), codes "1") ∷ []

modifying :
    -- also where the record holds the value already
    (modifies s (Put (Str (codes "k")) (codes "1") ∷ []) (codes "k") ≡ true)
    × (modifies s (Put (Str (codes "j")) (codes "1") ∷ []) (codes "k") ≡ false)
    × (modifies s (Drop (Field (codes "h") (codes "f")) ∷ []) (codes "h") ≡ true)
    × (modifies s (Clear ∷ []) (codes "k") ≡ true)
    × (modifies s (Clear ∷ []) (codes "j") ≡ false)
    -- a key that was absent, and that is put and cleared
    × (modifies s (Put (Str (codes "j")) (codes "1") ∷ Clear ∷ []) (codes "j") ≡ true)
    × (modifies s (DropKey (codes "k") ∷ Clear ∷ []) (codes "k") ≡ true)
    × (admit (modified_where (modifies s (Clear ∷ [])) (after idle_session (watch_k ∷ multi ∷ get_k ∷ []))) exec ≡ Answer NullArray)
    -- where the watched key is absent
    × (admit (modified_where (modifies [] (Clear ∷ [])) (after idle_session (watch_k ∷ multi ∷ get_k ∷ []))) exec ≡ RunAll (get_k ∷ []))
unfolding has_key verb_of is_named
modifying = (refl, refl, refl, refl, refl, refl, refl, refl, refl)
