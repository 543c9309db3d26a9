-- The numbers that the calls return. Generated from formats.toml by scripts/tables.
use Rattle.std.specs.Prelude.{ℕ}

abbrev pub good : ℕ
good = 0

abbrev pub absent : ℕ
absent = 1

abbrev pub changed : ℕ
changed = 9

abbrev pub no_evidence : ℕ
no_evidence = 50

abbrev pub too_deep : ℕ
too_deep = 2

abbrev pub name_length : ℕ
name_length = 3

abbrev pub key_length : ℕ
key_length = 4

abbrev pub wrong_name : ℕ
wrong_name = 5

abbrev pub other_is_same : ℕ
other_is_same = 6

abbrev pub other_off_path : ℕ
other_off_path = 7

abbrev pub root_mismatch : ℕ
root_mismatch = 8

abbrev pub no_bytes : ℕ
no_bytes = 17

abbrev pub unknown_kind : ℕ
unknown_kind = 18

abbrev pub cut_in_count : ℕ
cut_in_count = 19

abbrev pub cut_in_siblings : ℕ
cut_in_siblings = 20

abbrev pub cut_in_other : ℕ
cut_in_other = 21

abbrev pub cut_in_opening : ℕ
cut_in_opening = 22

abbrev pub cut_in_name : ℕ
cut_in_name = 23

abbrev pub cut_in_key : ℕ
cut_in_key = 24

abbrev pub bytes_follow : ℕ
bytes_follow = 25

abbrev pub version_unknown : ℕ
version_unknown = 33

abbrev pub version_back : ℕ
version_back = 34

abbrev pub first_epoch : ℕ
first_epoch = 35

abbrev pub not_later : ℕ
not_later = 36

abbrev pub previous_epoch : ℕ
previous_epoch = 37

abbrev pub previous_link : ℕ
previous_link = 38

abbrev pub nonce_changed : ℕ
nonce_changed = 39

abbrev pub signature : ℕ
signature = 40

abbrev pub entry_length : ℕ
entry_length = 48

abbrev pub no_entry : ℕ
no_entry = 49

abbrev pub no_reply : ℕ
no_reply = 64

abbrev pub reply_version : ℕ
reply_version = 65

abbrev pub cut_in_entry : ℕ
cut_in_entry = 66

abbrev pub cut_in_vrf : ℕ
cut_in_vrf = 67

abbrev pub catch_up_length : ℕ
catch_up_length = 68

abbrev pub no_history : ℕ
no_history = 69

abbrev pub history_version : ℕ
history_version = 70

abbrev pub cut_in_step : ℕ
cut_in_step = 71

abbrev pub epoch_order : ℕ
epoch_order = 72

abbrev pub unknown_end : ℕ
unknown_end = 73

abbrev pub sibling_map : ℕ
sibling_map = 74

abbrev pub sibling_repeated : ℕ
sibling_repeated = 75

abbrev pub end_repeated : ℕ
end_repeated = 76

abbrev pub other_policy : ℕ
other_policy = 80

abbrev pub malformed : ℕ
malformed = 81

abbrev pub equivocation : ℕ
equivocation = 82

abbrev pub unknown_epoch : ℕ
unknown_epoch = 83

abbrev pub other_epoch : ℕ
other_epoch = 84

abbrev pub stale : ℕ
stale = 85

abbrev pub future : ℕ
future = 86

abbrev pub vrf_proof : ℕ
vrf_proof = 87

abbrev pub succession_policy : ℕ
succession_policy = 88

abbrev pub succession_signature : ℕ
succession_signature = 89

abbrev pub next_policy : ℕ
next_policy = 90

abbrev pub chain_differs : ℕ
chain_differs = 91

abbrev pub other_start : ℕ
other_start = 92

abbrev pub state_length : ℕ
state_length = 96

abbrev pub state_version : ℕ
state_version = 97

abbrev pub state_damaged : ℕ
state_damaged = 98

abbrev pub state_policy : ℕ
state_policy = 99

abbrev pub state_form : ℕ
state_form = 100

abbrev pub state_chain : ℕ
state_chain = 101

abbrev pub not_vouched : ℕ
not_vouched = 104

abbrev pub auditors_differ : ℕ
auditors_differ = 105

abbrev pub misuse_name : ℕ
misuse_name = 130

abbrev pub misuse_expected_key : ℕ
misuse_expected_key = 131

abbrev pub misuse_other_watch : ℕ
misuse_other_watch = 132

abbrev pub misuse_not_watching : ℕ
misuse_not_watching = 133

abbrev pub misuse_change_open : ℕ
misuse_change_open = 134

abbrev pub misuse_same_key : ℕ
misuse_same_key = 135

abbrev pub misuse_not_later : ℕ
misuse_not_later = 136

abbrev pub misuse_no_room : ℕ
misuse_no_room = 137

abbrev pub misuse_no_auditor : ℕ
misuse_no_auditor = 138

abbrev pub misuse_not_confirmed : ℕ
misuse_not_confirmed = 139

abbrev pub misuse_has_entries : ℕ
misuse_has_entries = 140

abbrev pub misuse_no_quorum : ℕ
misuse_no_quorum = 141

abbrev pub misuse_many_heads : ℕ
misuse_many_heads = 142

abbrev pub misuse_no_state : ℕ
misuse_no_state = 143

abbrev pub guard_malformed : ℕ
guard_malformed = 112

abbrev pub guard_nothing_recorded : ℕ
guard_nothing_recorded = 113

abbrev pub guard_begins_unasked : ℕ
guard_begins_unasked = 114

abbrev pub guard_begins_again : ℕ
guard_begins_again = 115

abbrev pub guard_other_policy : ℕ
guard_other_policy = 116

abbrev pub guard_log_behind : ℕ
guard_log_behind = 117

abbrev pub guard_record_behind : ℕ
guard_record_behind = 118

abbrev pub guard_other_link : ℕ
guard_other_link = 119

abbrev pub guard_version_back : ℕ
guard_version_back = 120

abbrev pub guard_nonce_changed : ℕ
guard_nonce_changed = 121

abbrev pub guard_other_open : ℕ
guard_other_open = 122

abbrev pub guard_not_asked : ℕ
guard_not_asked = 123

abbrev pub guard_may_be_signed : ℕ
guard_may_be_signed = 124

abbrev pub guard_record_old : ℕ
guard_record_old = 125

abbrev pub guard_other_bodies : ℕ
guard_other_bodies = 126

abbrev pub guard_no_entry : ℕ
guard_no_entry = 127

abbrev pub evidence_overlap : ℕ
evidence_overlap = 1

abbrev pub evidence_other_policy : ℕ
evidence_other_policy = 2

abbrev pub evidence_malformed : ℕ
evidence_malformed = 3
