pub mod ValidationJson
